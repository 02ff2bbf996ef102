use Rattle.algebraic.proofs.Scanning.{NoneOdd}
use Rattle.algebraic.proofs.component_degree.Given as goal

abbrev pub invariant-loop-u : goal.invariant-loop-u
invariant-loop-u l = NoneOdd l.words l.inputs l.c l.u-index
