use Rattle.std.proofs.Common.{refl, sym}
use Rattle.std.proofs.lemmas.List.{length-take-le}
use Rattle.rounds.proofs.Cut.{cut_round, cut_limit, cut_lies, first_width, whole_swept, whole_answer}
use Rattle.rounds.proofs.sum_nonlinearity.Goals as goal

pub power_of_two-requires : goal.power_of_two-requires
power_of_two-requires c = first_width c.args.count c.handed-all.result _ _ c.handed-all.ensures c.args.i c.in_ok-check_sum.ensures

pub slice_bounds-all-end : goal.slice_bounds-all-end
slice_bounds-all-end c = cut_lies c.args.count c.handed-all.result _ _ c.handed-all.ensures c.args.i c.in_ok-check_sum.ensures refl

pub slice_bounds-least_between-end : goal.slice_bounds-least_between-end
slice_bounds-least_between-end c =
    sym (length-take-le c.args.count c.handed-all.result (cut_lies c.args.count c.handed-all.result _ _ c.handed-all.ensures c.args.i c.in_ok-check_sum.ensures refl))

pub least_between-nearest-requires : goal.least_between-nearest-requires
least_between-nearest-requires c = (
  cut_round c.args.count c.handed-all.result _ _ c.handed-all.ensures c.args.i c.in_ok-check_sum.ensures,
  cut_limit c.args.count c.handed-all.result _ _ c.handed-all.ensures c.args.i c.in_ok-check_sum.ensures,
  whole_swept c.args.count c.handed-all.result _ _ c.handed-all.ensures c.args.i c.in_ok-check_sum.ensures _ c.power_of_two.ensures.0,
)

pub returns : goal.returns
returns c =
    whole_answer c.args.count c.handed-all.result _ _ c.handed-all.ensures c.args.i c.in_ok-check_sum.ensures _ c.least_between-nearest.result refl c.power_of_two.ensures.0
    c.least_between-nearest.ensures
