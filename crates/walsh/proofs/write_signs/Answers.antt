use Rattle.boolean.proofs.Filled.{filled_whole}
use Rattle.walsh.proofs.write_signs.Goals as goal

pub returns : goal.returns
returns c = filled_whole _ _ _ _ _ c.loop-x.invariant c.loop-x-test.false
