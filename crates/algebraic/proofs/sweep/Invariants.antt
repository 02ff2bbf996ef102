use Rattle.std.proofs.Common.{◌-◌}
use Rattle.algebraic.specs.Work.{degree_candidate}
use Rattle.algebraic.proofs.Sweeping.{Meeting}
use Rattle.algebraic.proofs.sweep.Given as goal

abbrev pub invariant-loop-met : goal.invariant-loop-met
invariant-loop-met l = Meeting l.m l.words l.i (degree_candidate l.initial.found) l.found l.met

abbrev pub decreases-loop-met : goal.decreases-loop-met
decreases-loop-met l = l.masks - l.met.c
