-- `algebraic::normal_form` meets its contract: what the checks found says which case it is, in the reply and in the array.
use mathlib.Core.List.{List}
use mathlib.Core.Path.{◌≡◌, sym, ◌∙◌}
use Prim.Native.Nat.{ℕ, ◌^◌, ◌≤◌}
use native.Mathlib.Omega.{arith}
use borrow.Author.Tests.{eqb-true}
use lib.ListN.{length}
use lib.Pow.{pow_mono}
use lib.Seq.{length-take-le}
use Rattle.refusals.specs.Table.{table_call_checks, first, table_checks, Table}
use Rattle.refusals.proofs.Checks.{passed, accepted_after, table}
use Rattle.refusals.proofs.Outcomes.{wrote_refused, wrote_accepted}
use Rattle.std.specs.Prelude.{Ok}
use Rattle.algebraic.proofs.normal_form.Goals as goal

-- accepted: the table is one, and the array has 2^n places
room : (n : ℕ) (values out : List ℕ) → first (table_call_checks n values (length out)) ≡ Ok tt → length out ≡ 2 ^ n
unfolding table_call_checks
room n values out h = eqb-true (length out) (2 ^ n) (passed _ (accepted_after (table_checks n values) _ h)).0

tabled : (n : ℕ) (values out : List ℕ) → first (table_call_checks n values (length out)) ≡ Ok tt → Table n values
unfolding table_call_checks
tabled n values out h = table n values _ h

small : (n : ℕ) (values : List ℕ) → Table n values → length values ≤ 256
small n values t = let most : 2 ^ n ≤ 256 = pow_mono t.n_high in omega (arith, t.size)

pub slice_bounds-words-end : goal.slice_bounds-words-end
slice_bounds-words-end c = (small c.args.n c.args.table.now ((tabled c.args.n c.args.table.now c.args.out.now (sym c.in_ok-check_table_call.ensures))))

pub slice_bounds-write_form-end : goal.slice_bounds-write_form-end
slice_bounds-write_form-end c = sym (length-take-le _ _ ((small c.args.n c.args.table.now ((tabled c.args.n c.args.table.now c.args.out.now (sym c.in_ok-check_table_call.ensures))))))

pub write_form-requires : goal.write_form-requires
write_form-requires c =
    let a = c.args in
    ((tabled c.args.n c.args.table.now c.args.out.now (sym c.in_ok-check_table_call.ensures)), length-take-le _ _ ((small c.args.n c.args.table.now ((tabled c.args.n c.args.table.now c.args.out.now (sym c.in_ok-check_table_call.ensures))))) ∙ ((tabled c.args.n c.args.table.now c.args.out.now (sym c.in_ok-check_table_call.ensures))).size, room a.n a.table.now a.out.now (sym c.in_ok-check_table_call.ensures))
