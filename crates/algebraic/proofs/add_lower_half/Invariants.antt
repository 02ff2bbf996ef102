use Rattle.algebraic.proofs.Adding.{Adding}
use Rattle.algebraic.proofs.add_lower_half.Given as goal

abbrev pub invariant-loop-k : goal.invariant-loop-k
invariant-loop-k l = Adding l.h l.k l.initial.values l.values
