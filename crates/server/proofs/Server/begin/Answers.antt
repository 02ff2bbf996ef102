use Rattle.server.proofs.Places.{begins}
use Rattle.server.proofs.Server.begin.Goals as goal

pub returns : goal.returns
returns c = begins c.vacant-none.result c.vacant-none.ensures
