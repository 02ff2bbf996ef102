use Rattle.server.specs.Calls.{ServerRan}
use Rattle.server.specs.Work.{Waiting}
use Rattle.server.proofs.Server.run.Given as goal

abbrev pub invariant-loop-done : goal.invariant-loop-done
invariant-loop-done l = ServerRan l.initial.server l._done l.server × Waiting l.server l.waiting
