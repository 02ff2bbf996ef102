use Rattle.std.proofs.lemmas.Result.{err_from_is_err_and}
use Rattle.std.proofs.Common.{sym, ◌∙◌}
use Rattle.rounds.proofs.Entry.{first_outputs}
use Rattle.rounds.proofs.Cut.{sum_refused, low_fails, high_fails, part_passes}
use Rattle.rounds.proofs.check_sum_part.Goals as goal

pub returns-in_err-check_sum : goal.returns-in_err-check_sum
returns-in_err-check_sum c =
    let p = err_from_is_err_and c.from_residual.result c.from_residual.ensures.1 in
    rw (p.1, p.2)
    (sum_refused c.args.count _ _ c.args.i c.args.low c.args.high _ c.in_err-check_sum.ensures)

pub power_of_two-requires : goal.power_of_two-requires
power_of_two-requires c = first_outputs c.args.count _ _ c.args.i (sym c.in_ok-check_sum.ensures)

pub returns-then-not-in_range : goal.returns-then-not-in_range
returns-then-not-in_range c =
    low_fails c.args.count _ _ c.args.i c.in_ok-check_sum.ensures c.args.low c.args.high _ c.power_of_two.ensures.0 (sym c.if-not-in_range.true ∙ c.in_range.ensures)

pub returns-then-not-in_range-2 : goal.returns-then-not-in_range-2
returns-then-not-in_range-2 c =
    high_fails c.args.count _ _ c.args.i c.in_ok-check_sum.ensures c.args.low c.args.high _ c.power_of_two.ensures.0 (sym c.if-not-in_range.false ∙ c.in_range.ensures)
    (sym c.if-not-in_range-2.true ∙ c.in_range-2.ensures)

pub returns : goal.returns
returns c =
    part_passes c.args.count _ _ c.args.i c.in_ok-check_sum.ensures c.args.low c.args.high _ c.power_of_two.ensures.0 (sym c.if-not-in_range.false ∙ c.in_range.ensures)
    (sym c.if-not-in_range-2.false ∙ c.in_range-2.ensures)
