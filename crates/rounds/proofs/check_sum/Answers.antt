use Rattle.std.proofs.lemmas.Result.{err_from_is_err_and}
use Rattle.std.proofs.Common.{sym, ◌∙◌}
use Rattle.rounds.proofs.Cut.{boxes_fail, widths_fail, limit_fails, all_pass}
use Rattle.rounds.proofs.Entry.{wrong_number}
use Rattle.rounds.proofs.check_sum.Goals as goal

pub returns-then-not-in_range : goal.returns-then-not-in_range
returns-then-not-in_range c = wrong_number c.args.count _ c.args.i (sym c.in_range.ensures ∙ c.if-not-in_range.true)

pub returns-in_err-check_boxes : goal.returns-in_err-check_boxes
returns-in_err-check_boxes c =
    let p = err_from_is_err_and c.from_residual.result c.from_residual.ensures.1 in
    rw (p.1, p.2)
    (boxes_fail c.args.count c.handed-all.result _ _ c.handed-all.ensures c.args.i (sym c.in_range.ensures ∙ c.if-not-in_range.false) _ c.in_err-check_boxes.ensures)

pub returns-then-not-same_outputs : goal.returns-then-not-same_outputs
returns-then-not-same_outputs c =
    widths_fail c.args.count c.handed-all.result _ _ c.handed-all.ensures c.args.i (sym c.in_range.ensures ∙ c.if-not-in_range.false) c.in_ok-check_boxes.ensures
    (sym c.if-not-same_outputs.true ∙ c.same_outputs.ensures)

pub returns-then-not-in_range-2 : goal.returns-then-not-in_range-2
returns-then-not-in_range-2 c =
    limit_fails c.args.count c.handed-all.result _ _ c.handed-all.ensures c.args.i (sym c.in_range.ensures ∙ c.if-not-in_range.false) c.in_ok-check_boxes.ensures
    (sym c.if-not-same_outputs.false ∙ c.same_outputs.ensures) (sym c.if-not-in_range-2.true ∙ c.in_range-2.ensures)

pub returns : goal.returns
returns c =
    all_pass c.args.count c.handed-all.result _ _ c.handed-all.ensures c.args.i (sym c.in_range.ensures ∙ c.if-not-in_range.false) c.in_ok-check_boxes.ensures
    (sym c.if-not-same_outputs.false ∙ c.same_outputs.ensures) (sym c.if-not-in_range-2.false ∙ c.in_range-2.ensures)
