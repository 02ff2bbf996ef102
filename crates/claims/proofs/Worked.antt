-- Document 01, "Each bound from both sides, and proved cases", with the limits and the later calls of document 02.
use Rattle.std.specs.Prelude.{Err}
use Prim.Native.Nat.{ℕ, ◌^◌, ◌<◌}
use mathlib.Core.Path.{◌≡◌}
use mathlib.Core.List.{List}
use lib.ListN.{length}
use Rattle.boolean.specs.Functions.{at}
use Rattle.refusals.specs.Table.{first, box_checks}
use Rattle.refusals.specs.declared.Refusal.TheVariants.{Value}
use Rattle.refusals.proofs.Theorems.{thirty_two_outputs}
use Rattle.claims.specs.Outcomes.{Right}
use Rattle.claims.specs.Worked.{worked_table}
use Rattle.claims.proofs.Computed as computed

-- [01.bounds.1] [01.cases.1] [01.traps.1] [01.traps.3] [01.traps.4] [02.§2.8] [02.§6.5] [02.§9.4] "Each bound from both sides",
-- "Proved in a single theorem over a table": the ten cases in the document's order and the bounds of all calls (specs/Worked); of each line,
-- what is asked is what is printed
pub worked : Right worked_table
worked = computed.table_right

-- [01.bounds.2] "at m = 16 (since 02 §2 at m = 32) no row can give 4"
pub widest_rows_fit : (n : ℕ) (rows : List ℕ) → ((x : ℕ) → x < length rows → at rows x < 2 ^ 32)
    → ¬ (first (box_checks n 32 rows) ≡ Err Value)
widest_rows_fit = thirty_two_outputs
