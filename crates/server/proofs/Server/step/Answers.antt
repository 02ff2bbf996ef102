use Rattle.server.proofs.Outcomes.{ran_one}
use Rattle.server.proofs.Server.step.Goals as goal

pub returns : goal.returns
returns c = ran_one c.run.ensures
