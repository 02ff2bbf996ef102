use Rattle.std.proofs.Common.{ℕ, ◌+◌, length, take, sym, ap, ap₂, ◌∙◌, arith, rules}
use lib.Seq.{length-take-le}
use Rattle.linear.specs.Calls.{pair_candidate}
use Rattle.linear.specs.declared.Found.{Found}
use Rattle.refusals.proofs.Bounds.{range_high}
use Rattle.server.specs.Calls.{found_of, better, one_more_place}
use Rattle.server.proofs.Boxes.{left_few, rows_room, box_left}
use Rattle.server.proofs.Places.{unfinished_taken}
use Rattle.server.proofs.examine.Goals as goal

pub power_of_two-size-requires : goal.power_of_two-size-requires
power_of_two-size-requires c = omega (arith, range_high 1 8 c.args.p.n (box_left c.args.p c.requires.1).inputs)

pub overflow_add-next : goal.overflow_add-next
overflow_add-next c = omega (arith, left_few c.args.p c.requires.1)

pub slice_bounds-with_component-end : goal.slice_bounds-with_component-end
slice_bounds-with_component-end c =
    let p = c.args.p in
    sym (length-take-le _ _ (omega (arith, rows_room p c.requires.1, c.power_of_two-size.ensures.0)))

pub returns : goal.returns
unfolding one_more_place
returns c =
    let p = c.args.p in
    ap₂ (λ (t : ℕ) (f : Found). record { taken = t; n = p.n; m = p.m; rows = p.rows; examined = p.examined + 1; found = f })
    (sym (unfinished_taken p c.requires.1))
    (c.with_component-found.ensures ∙ ap (λ (k : ℕ). found_of (better p.n p.m (take k p.rows) (pair_candidate p.found) (p.examined + 1))) c.power_of_two-size.ensures.0)
