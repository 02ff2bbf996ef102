-- Of width 0 is one value, and it stays.
use Rattle.std.proofs.Common.{arith}
use Rattle.walsh.proofs.TransformHalves.{one_value}
use Rattle.walsh.proofs.transform_at_once.Goals as goal

pub returns-in_default : goal.returns-in_default
returns-in_default c = one_value c.args.n c.args.values.now c.requires.1 (omega arith)
