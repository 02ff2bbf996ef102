use Rattle.std.proofs.Common.{refl, sym, arith}
use Rattle.std.proofs.lemmas.List.{length-take-le}
use Rattle.rounds.proofs.Cut.{cut_round, cut_lies, plain_accepted, part_limit, nothing_answer, part_swept, part_answer}
use Rattle.rounds.proofs.sum_nonlinearity_between.Goals as goal

pub first_mask-start-requires : goal.first_mask-start-requires
first_mask-start-requires c = (part_limit c.args.count _ _ c.args.i c.args.first c.args.last c.in_ok-check_sum_part.ensures, omega arith)

pub returns-then-last-start : goal.returns-then-last-start
returns-then-last-start c =
    nothing_answer c.args.count _ _ c.args.i c.args.first c.args.last c.in_ok-check_sum_part.ensures c.first_mask-start.result c.first_mask-start.ensures c.if-last-start.true

pub slice_bounds-all-end : goal.slice_bounds-all-end
slice_bounds-all-end c =
    cut_lies c.args.count c.handed-all.result _ _ c.handed-all.ensures c.args.i (plain_accepted c.args.count _ _ c.args.i c.args.first c.args.last c.in_ok-check_sum_part.ensures) refl

pub slice_bounds-least_between-end : goal.slice_bounds-least_between-end
slice_bounds-least_between-end c =
    let accepted = plain_accepted c.args.count _ _ c.args.i c.args.first c.args.last c.in_ok-check_sum_part.ensures in
    sym (length-take-le c.args.count c.handed-all.result (cut_lies c.args.count c.handed-all.result _ _ c.handed-all.ensures c.args.i accepted refl))

pub least_between-nearest-requires : goal.least_between-nearest-requires
least_between-nearest-requires c =
    let accepted = plain_accepted c.args.count _ _ c.args.i c.args.first c.args.last c.in_ok-check_sum_part.ensures in (
      cut_round c.args.count c.handed-all.result _ _ c.handed-all.ensures c.args.i accepted,
      part_limit c.args.count _ _ c.args.i c.args.first c.args.last c.in_ok-check_sum_part.ensures,
      part_swept c.args.count c.handed-all.result _ _ c.handed-all.ensures c.args.i c.args.first c.args.last c.in_ok-check_sum_part.ensures c.first_mask-start.result
          c.first_mask-start.ensures c.if-last-start.false,
    )

pub returns : goal.returns
returns c =
    part_answer c.args.count c.handed-all.result _ _ c.handed-all.ensures c.args.i c.args.first c.args.last c.in_ok-check_sum_part.ensures c.first_mask-start.result
    c.first_mask-start.ensures c.if-last-start.false c.least_between-nearest.result refl c.least_between-nearest.ensures
