use Rattle.std.proofs.Common.{refl}
use Rattle.server.specs.Calls.{place_of}
use Rattle.server.proofs.vacant.Goals as goal

pub returns : goal.returns
unfolding place_of
returns c = refl
