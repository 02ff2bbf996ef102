-- Of two values, crossing them is all.
use Rattle.walsh.proofs.TransformHalves.{two_values}
use Rattle.walsh.proofs.blocks.TwoSummed.transform.Goals as goal

pub returns : goal.returns
returns c = two_values c.args.values.now c.butterfly.new.values c.requires c.butterfly.auto.values c.butterfly.ensures
