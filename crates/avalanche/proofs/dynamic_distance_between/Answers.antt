-- `avalanche::dynamic_distance_between` meets its contract: what the checks found says which case it is, the first mask within the limit whether there is
-- one in the part, and the figure is half of the largest |r(s)|, at the same witness.
use mathlib.Core.Path.{◌≡◌, sym, ap, ◌∙◌}
use native.Mathlib.Omega.{arith}
use Rattle.refusals.specs.Table.{figures, first}
use Rattle.refusals.proofs.Checks.{reply_refused, reply_accepted}
use Rattle.masks.specs.Parts.{components_between}
use Rattle.linear.proofs.Ranges.{part_from}
use Rattle.avalanche.specs.Avalanche.{measured_between, distance_between}
use Rattle.avalanche.specs.Parts.{distance_part_checks}
use Rattle.avalanche.specs.Statements.{distance_of}
use Rattle.avalanche.specs.Work.{change_candidate}
use Rattle.avalanche.proofs.Distance.{DistanceWithin, part_accepted, distance_shown}
use Rattle.avalanche.proofs.Ranges.{part_found, part_nothing}
use Rattle.std.specs.Prelude.{Ok}
use Rattle.avalanche.proofs.dynamic_distance_between.Goals as goal

pub first_mask-start-requires : goal.first_mask-start-requires
first_mask-start-requires c = (((part_accepted c.args.n c.args.m c.args.rows.now c.args.i c.args.j c.args.first c.args.last (sym c.in_ok-check_distance_part.ensures))).i_low, omega (arith, c.ranges.first))

pub returns-then-last-start : goal.returns-then-last-start
unfolding distance_between
returns-then-last-start c =
    let a = c.args in
    ap figures (part_nothing a.n a.m a.j (distance_of a.n a.rows.now) a.last c.first_mask-start.ensures c.if-last-start.true)
    ∙ reply_accepted (sym c.in_ok-check_distance_part.ensures) _

pub largest_correlation-widest-requires : goal.largest_correlation-widest-requires
largest_correlation-widest-requires c =
    let a = c.args in
    let w = (part_accepted c.args.n c.args.m c.args.rows.now c.args.i c.args.j c.args.first c.args.last (sym c.in_ok-check_distance_part.ensures)) in
    (w.box, w.i_low, w.j_low, part_from a.n a.m a.rows.now a.last c.first_mask-start.ensures w.low_end w.high_end c.if-last-start.false)

pub returns : goal.returns
unfolding distance_between measured_between
returns c =
    let a = c.args in
    let w = (part_accepted c.args.n c.args.m c.args.rows.now c.args.i c.args.j c.args.first c.args.last (sym c.in_ok-check_distance_part.ensures)) in
    ap figures
    (distance_shown a.n a.rows.now a.j (components_between a.m a.i c.first_mask-start.result a.last) w.box.n_low
    (change_candidate c.largest_correlation-widest.result) c.largest_correlation-widest.ensures
    ∙ part_found a.n a.m a.j (distance_of a.n a.rows.now) a.last c.first_mask-start.ensures w.box.n_low w.j_low w.low_end
    w.high_end c.if-last-start.false)
    ∙ reply_accepted (sym c.in_ok-check_distance_part.ensures) _
