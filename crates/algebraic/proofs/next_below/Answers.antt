use Rattle.std.proofs.Common.{arith}
use Rattle.algebraic.proofs.Passing.{passing_next}
use Rattle.algebraic.proofs.next_below.Goals as goal

pub loop-at-preserved : goal.loop-at-preserved
loop-at-preserved c =
    let inv = c.loop-at.invariant in
    passing_next inv (omega (arith, c.loop-at-test.true, c.power_of_two-masks.ensures.0, inv.walk.c_high)) c.next_within-at.ensures
    c.component_degree-degree.ensures c.if-degree-threshold.false
