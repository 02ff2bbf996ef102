-- `walsh::spectrum` meets its contract: what accepted checks say of the arguments.
use Prim.Native.Nat.{ℕ, ◌^◌}
use lib.IntN.{ℤ}
use mathlib.Core.Path.{◌≡◌, sym}
use mathlib.Core.List.{List}
use borrow.Author.Tests.{eqb-true}
use lib.ListN.{length}
use Rattle.std.specs.Prelude.{Ok}
use Rattle.refusals.specs.Table.{first, table_checks, table_call_checks}
use Rattle.refusals.proofs.Checks.{table, passed, accepted_after}
use Rattle.walsh.specs.Work.{Ready}
use Rattle.walsh.proofs.spectrum.Goals as goal

ready : (n : ℕ) (table : List ℕ) (out : List ℤ) → first (table_call_checks n table (length out)) ≡ Ok tt → Ready n table out
unfolding table_call_checks
ready n values out h = record {
  read = table n values _ h;
  room = eqb-true (length out) (2 ^ n) (passed _ (accepted_after (table_checks n values) _ h)).0;
}

pub descend-requires : goal.descend-requires
descend-requires c =
    let a = c.args in
    (ready a.n a.table.now a.out.now (sym c.in_ok-check_table_call.ensures), c.spectra-fixed.ensures)
