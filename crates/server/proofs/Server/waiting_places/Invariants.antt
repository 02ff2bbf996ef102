use Rattle.server.proofs.Waits.{Marked}
use Rattle.server.proofs.Server.waiting_places.Given as goal

abbrev pub invariant-loop-at : goal.invariant-loop-at
invariant-loop-at l = Marked l.self l.waiting l.at
