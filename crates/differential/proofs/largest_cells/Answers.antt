-- `differential::largest_cells` meets its contract: where a box's checks refuse, so do the list's, and else the function behind it answers.
use Rattle.std.proofs.lemmas.Result.{err_from_is_err_and}
use mathlib.Core.Path.{refl, sym, ◌∙◌}
use mathlib.Core.List.{[]}
use Rattle.refusals.specs.Table.{box_checks}
use Rattle.refusals.proofs.Checks.{box, first_refused}
use Rattle.refusals.proofs.Outcomes.{wrote_refused}
use Rattle.differential.specs.Calls.{list_checks}
use Rattle.std.specs.Prelude.{Ok}
use Rattle.differential.proofs.largest_cells.Goals as goal

pub returns-in_err-check_box : goal.returns-in_err-check_box
unfolding list_checks
returns-in_err-check_box c =
    let a = c.args in
    let p = err_from_is_err_and c.from_residual.result c.from_residual.ensures.1 in
    rw (p.1, p.2) (wrote_refused (first_refused (box_checks a.n a.m a.rows.now) _ (sym c.in_err-check_box.ensures)))

pub list_with-requires : goal.list_with-requires
list_with-requires c =
    let a = c.args in
    (box a.n a.m a.rows.now [] (sym c.in_ok-check_box.ensures), refl)
