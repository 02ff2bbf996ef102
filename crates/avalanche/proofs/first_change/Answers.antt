use Rattle.avalanche.proofs.NoChange.{first_one}
use Rattle.avalanche.proofs.first_change.Goals as goal

pub returns-then-largest-eq0 : goal.returns-then-largest-eq0
returns-then-largest-eq0 c = let p = c.requires in first_one p.0 p.2 p.3 c.if-largest-eq0.true p.5
