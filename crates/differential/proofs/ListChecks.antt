-- The check of the list's length, by the number of cells that was counted, and what the list holds afterwards. Assumes nothing.
use Rattle.std.specs.Prelude.{Ok, Err}
use mathlib.Core.Path.{◌≡◌, sym, ap, ◌∙◌}
use mathlib.Core.List.{List, ◌++◌}
use Prim.Native.Nat.{ℕ, ◌<◌, ◌≤◌}
use native.Mathlib.Nat.{zero-add}
use native.Mathlib.Omega.{arith}
use borrow.Author.Tests.{le-leb, lt-leb}
use lib.ListN.{length, drop}
use lib.Seq.{sets, sets-eq}
use Rattle.refusals.specs.Table.{first, box_checks, Box}
use Rattle.refusals.specs.declared.Refusal.TheVariants.{ListTooShort}
use Rattle.refusals.proofs.Checks.{found_after, skip, stop, end, box_accepted}
use Rattle.differential.specs.XorTable.{largest_cells}
use Rattle.differential.specs.Calls.{list_checks, list_after}

module _ {n m : ℕ} {rows : List ℕ} (b : Box n m rows) {count : ℕ} (e : count ≡ length (largest_cells n m rows)) (room : ℕ) where
  pub too_short : room < count → first (list_checks n m rows room) ≡ Err ListTooShort
  unfolding list_checks
  too_short l = sym (found_after (box_checks n m rows) (box_accepted n m rows b) (stop (lt-leb (length (largest_cells n m rows)) room (omega arith))))

  pub long_enough : count ≤ room → first (list_checks n m rows room) ≡ (Ok tt)
  unfolding list_checks
  long_enough l = sym (found_after (box_checks n m rows) (box_accepted n m rows b) (skip (le-leb (length (largest_cells n m rows)) room (omega arith)) end))

-- entries written from the first on, and what was past them
pub written_first : (wanted old new : List ℕ) → length wanted ≤ length old → new ≡ sets old 0 wanted → new ≡ list_after wanted old
written_first wanted old new l e = e ∙ sets-eq wanted old 0 (omega arith) ∙ ap (λ (k : ℕ). wanted ++ drop k old) (zero-add (length wanted))
