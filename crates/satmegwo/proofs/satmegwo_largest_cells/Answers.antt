-- `satmegwo::satmegwo_largest_cells` meets its contract: the array for the figure is looked at between the box and the list.
use mathlib.Core.Path.{◌≡◌, sym, ap, ◌∙◌}
use mathlib.Core.List.{[], ◌∷◌}
use borrow.Author.Tests.{eq-eqb, ne_eqb}
use lib.ListN.{length}
use Rattle.refusals.specs.Table.{first, box_checks}
use Rattle.refusals.proofs.Outcomes.{wrote_by}
use Rattle.differential.specs.XorTable.{largest_cells}
use Rattle.differential.specs.Calls.{list_checks, said_cell_list}
use Rattle.border.specs.Border.{room_number}
use Rattle.satmegwo.specs.Exports.{cells_checks}
use Rattle.border.proofs.Giving.{out_refused, out_beside, out_figures, out_refusal, room_refused, room_passed}
use Rattle.satmegwo.proofs.satmegwo_largest_cells.Goals as goal

pub returns-then-figures-ne1 : goal.returns-then-figures-ne1
unfolding cells_checks
returns-then-figures-ne1 c =
    let a = c.args in
    let t = room_refused (box_checks a.n a.m a.rows.now) _ (ne_eqb _ 1 c.if-figures-ne1.true) in
    let n = c.number_for_room.ensures ∙ ap room_number c.check_box.ensures ∙ t.number_is in
    record { count = out_refused t.is n; cells = out_refused t.is n }

pub returns-in-Ok : goal.returns-in-Ok
unfolding cells_checks list_checks
returns-in-Ok c =
    let a = c.args in
    let as_called : first (cells_checks a.n a.m a.rows.now (length a.figures.now) (length a.list.now))
    ≡ first (list_checks a.n a.m a.rows.now (length a.list.now)) =
    room_passed (box_checks a.n a.m a.rows.now) _ (eq-eqb _ 1 c.if-figures-ne1.false) in
    let cells = largest_cells a.n a.m a.rows.now in
    let wrote = wrote_by (sym as_called) c.largest_cells.ensures in
    let count = out_figures (length cells ∷ []) c.if-figures-ne1.false (sym (ap said_cell_list c.in-Ok.is) ∙ wrote.reply) c.give.ensures in
    record { count = count; cells = out_beside count wrote }

pub returns-in-Err : goal.returns-in-Err
unfolding cells_checks list_checks
returns-in-Err c =
    let a = c.args in
    let as_called : first (cells_checks a.n a.m a.rows.now (length a.figures.now) (length a.list.now))
    ≡ first (list_checks a.n a.m a.rows.now (length a.list.now)) =
    room_passed (box_checks a.n a.m a.rows.now) _ (eq-eqb _ 1 c.if-figures-ne1.false) in
    let cells = largest_cells a.n a.m a.rows.now in
    let wrote = wrote_by (sym as_called) c.largest_cells.ensures in
    let count = out_refusal (length cells ∷ []) (sym (ap said_cell_list c.in-Err.is) ∙ wrote.reply) c.number_of.ensures in
    record { count = count; cells = out_beside count wrote }
