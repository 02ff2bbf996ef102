use Rattle.std.proofs.Common.{◌-◌}
use Rattle.algebraic.proofs.Passing.{Passing}
use Rattle.algebraic.proofs.next_below.Given as goal

abbrev pub invariant-loop-at : goal.invariant-loop-at
invariant-loop-at l = Passing l.m l.words l.i l.threshold l.c l.at

abbrev pub decreases-loop-at : goal.decreases-loop-at
decreases-loop-at l = l.masks - l.at
