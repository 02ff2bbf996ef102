use Rattle.catalogue.proofs.StandingLoop.{Standing}
use Rattle.catalogue.proofs.records_stand.Given as goal

abbrev pub invariant-loop-k : goal.invariant-loop-k
invariant-loop-k l = Standing l.b l.n l.end l.k
