-- `nearest::nearest_pairs` meets its contract: where the nonlinearity call gives a figure the limit and the box were accepted.
use Rattle.std.proofs.lemmas.Result.{err_from_is_err_and}
use mathlib.Core.Path.{sym}
use lib.ListN.{length}
use Rattle.refusals.proofs.Checks.{limited}
use Rattle.boolean.specs.Selection.{shown}
use Rattle.linear.specs.Nonlinearity.{nonlinearity}
use Rattle.linear.proofs.Theorems.{figure_told}
use Rattle.nearest.proofs.Checks.{declined}
use Rattle.nearest.proofs.nearest_pairs.Goals as goal

pub returns-in_err-nearest : goal.returns-in_err-nearest
returns-in_err-nearest c =
    let a = c.args in
    let p = err_from_is_err_and c.from_residual.result c.from_residual.ensures.1 in
    rw (p.1, p.2) (declined a.n a.m a.rows.now a.i (length a.list.now) (shown (nonlinearity a.n a.m a.rows.now a.i)) c.in_err-nearest.ensures)

pub list_nearest-requires : goal.list_nearest-requires
list_nearest-requires c =
    let a = c.args in
    let t = figure_told a.n a.m a.rows.now a.i (sym c.in_ok-nearest.ensures) in
    let l = limited a.n a.m a.rows.now a.i t.0 in
    record { box = l.box; i_low = l.i_low; i_high = l.i_high; least = sym t.1 }
