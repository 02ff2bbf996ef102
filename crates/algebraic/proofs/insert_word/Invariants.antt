use Rattle.std.proofs.Common.{◌≡◌}
use Rattle.algebraic.proofs.Basis.{Reducing}
use Rattle.algebraic.proofs.insert_word.Given as goal

abbrev pub invariant-loop-rest : goal.invariant-loop-rest
invariant-loop-rest l = (l.basis ≡ l.initial.basis) × Reducing l.m l.word l.initial.basis l.rest

abbrev pub decreases-loop-rest : goal.decreases-loop-rest
decreases-loop-rest l = l.rest
