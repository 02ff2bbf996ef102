use Rattle.algebraic.proofs.+moebius.Given as goal

abbrev pub decreases-moebius : goal.decreases-moebius
decreases-moebius l = l.n
