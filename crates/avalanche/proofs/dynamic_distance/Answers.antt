-- `avalanche::dynamic_distance` meets its contract: half of the largest |r(s)|, at the same witness.
use mathlib.Core.Path.{◌≡◌, sym, ap, ◌∙◌}
use native.Mathlib.Omega.{arith}
use Rattle.refusals.specs.Table.{figures, first, Box}
use Rattle.refusals.proofs.Checks.{reply_refused, reply_accepted}
use Rattle.avalanche.specs.Calls.{distance_checks}
use Rattle.avalanche.specs.Work.{change_candidate}
use Rattle.avalanche.proofs.Distance.{distance_box, outputs_low, inputs_low, distance_shown}
use Rattle.boolean.specs.Selection.{first_largest}
use Rattle.boolean.specs.Functions.{components}
use Rattle.avalanche.specs.Avalanche.{correlated, measured, dynamic_distance}
use Rattle.linear.proofs.Ranges.{whole_part}
use Rattle.avalanche.proofs.Ranges.{whole_largest}
use lib.Pow.{pow_pos}
use Rattle.std.specs.Prelude.{Ok}
use Rattle.avalanche.proofs.dynamic_distance.Goals as goal

pub power_of_two-requires : goal.power_of_two-requires
power_of_two-requires c = ((distance_box c.args.n c.args.m c.args.rows.now c.args.i c.args.j (sym c.in_ok-check_distance.ensures))).m_high

pub largest_correlation-found-requires : goal.largest_correlation-found-requires
largest_correlation-found-requires c =
    let a = c.args in
    let b = (distance_box c.args.n c.args.m c.args.rows.now c.args.i c.args.j (sym c.in_ok-check_distance.ensures)) in
    let i_low = outputs_low a.n a.m a.rows.now a.i a.j (sym c.in_ok-check_distance.ensures) in
    let j_low = inputs_low a.n a.m a.rows.now a.i a.j (sym c.in_ok-check_distance.ensures) in
    (b, omega arith, omega arith, whole_part b.m_low i_low c.power_of_two.ensures.0)

pub returns : goal.returns
unfolding dynamic_distance measured
returns c =
    let a = c.args in
    ap figures
    (distance_shown a.n a.rows.now a.j (components a.m a.i) ((distance_box c.args.n c.args.m c.args.rows.now c.args.i c.args.j (sym c.in_ok-check_distance.ensures))).n_low
    (change_candidate c.largest_correlation-found.result) (c.largest_correlation-found.ensures ∙ ap first_largest (whole_largest a.n a.m a.i a.j (correlated a.n a.rows.now) c.power_of_two.ensures.0)))
    ∙ reply_accepted (sym c.in_ok-check_distance.ensures) _
