-- The nearest pairs of the components before c differ at more inputs, and the nearest of them is kept.
use Rattle.swaps.proofs.Trying.{Reaching}
use Rattle.swaps.proofs.reaching.Given as goal

abbrev pub invariant-loop-c : goal.invariant-loop-c
invariant-loop-c l = Reaching l.n l.m l.rows l.count l.bits l.out l.least l.c
