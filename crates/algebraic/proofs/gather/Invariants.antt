use Rattle.algebraic.proofs.Gathering.{Gathering}
use Rattle.algebraic.proofs.gather.Given as goal

abbrev pub invariant-loop-u : goal.invariant-loop-u
invariant-loop-u l = Gathering l.u-items l.words l.basis l.u-index l.count l.inputs
