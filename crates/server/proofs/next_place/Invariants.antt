use Rattle.server.proofs.Steps.{Passed}
use Rattle.server.proofs.next_place.Given as goal

abbrev pub invariant-loop-k : goal.invariant-loop-k
invariant-loop-k l = Passed l.waiting l.last l.k
