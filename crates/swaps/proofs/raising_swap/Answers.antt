-- `swaps::raising_swap` meets its contract: an accepted box is never refused by the nonlinearity call.
use Rattle.std.proofs.lemmas.Result.{err_from_is_err_and}
use mathlib.Core.Path.{sym}
use mathlib.Core.List.{[]}
use lib.Dec.{lit≤}
use Rattle.refusals.proofs.Checks.{box_up_to, few_outputs}
use Rattle.swaps.proofs.Accepted.{pair_reached_lem, never_declined}
use Rattle.swaps.proofs.raising_swap.Goals as goal

pub returns-in_err-present : goal.returns-in_err-present
returns-in_err-present c =
    let a = c.args in
    let p = err_from_is_err_and c.from_residual-in_err-present.result c.from_residual-in_err-present.ensures.1 in
    rw (p.1, p.2) (never_declined (box_up_to 8 a.n a.m a.rows.now [] (lit≤ tt) (sym c.in_ok-check_box_up_to.ensures)) c.in_err-present.ensures)

pub search_box-requires : goal.search_box-requires
search_box-requires c =
    let a = c.args in
    let accepted = sym c.in_ok-check_box_up_to.ensures in
    let b = box_up_to 8 a.n a.m a.rows.now [] (lit≤ tt) accepted in
    (b, few_outputs 8 a.n a.m a.rows.now [] accepted, pair_reached_lem b c.in_ok-present.ensures)
