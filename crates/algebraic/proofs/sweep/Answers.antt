use Rattle.std.proofs.Common.{◌≡◌, ◌^◌, ◌<◌, arith}
use Rattle.algebraic.proofs.Sweeping.{first_walk, meeting_starts, meeting_next, meeting_walk, meeting_low, sweep_ends}
use Rattle.algebraic.proofs.sweep.Goals as goal

pub next_below-met-requires : goal.next_below-met-requires
next_below-met-requires c =
    let w = first_walk c.requires.0 in
    (c.requires.0, c.requires.1, w.c_low, w.c_high, w.few)

pub loop-met-init : goal.loop-met-init
loop-met-init c = meeting_starts c.requires.0 c.next_below-met.ensures

pub weaker-found-requires : goal.weaker-found-requires
weaker-found-requires c =
    let inv = c.loop-met.invariant in
    let below : c.loop-met.met.c < 2 ^ c.args.m = omega (arith, c.loop-met-test.true, c.power_of_two-masks.ensures.0, inv.sweeping.walk.c_high) in
    (meeting_low c.requires.0 inv below, inv.limited)

pub next_below-met-requires-in-loop-met : goal.next_below-met-requires-in-loop-met
next_below-met-requires-in-loop-met c =
    let inv = c.loop-met.invariant in
    let below : c.loop-met.met.c < 2 ^ c.args.m = omega (arith, c.loop-met-test.true, c.power_of_two-masks.ensures.0, inv.sweeping.walk.c_high) in
    let w = meeting_walk inv below c.next_within-next.ensures in
    (c.requires.0, c.requires.1, w.c_low, w.c_high, w.few)

pub loop-met-preserved : goal.loop-met-preserved
loop-met-preserved c =
    let inv = c.loop-met.invariant in
    let below : c.loop-met.met.c < 2 ^ c.args.m = omega (arith, c.loop-met-test.true, c.power_of_two-masks.ensures.0, inv.sweeping.walk.c_high) in
    meeting_next inv below c.next_within-next.ensures c.weaker-found.ensures.0 c.weaker-found.ensures.1 c.next_below-met-in-loop-met.ensures

pub returns : goal.returns
returns c =
    let inv = c.loop-met.invariant in
    (sweep_ends c.args.words.now inv.sweeping c.requires.0 (omega arith) (omega (arith, c.loop-met-test.false, c.power_of_two-masks.ensures.0)), inv.limited)
