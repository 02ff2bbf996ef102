use Rattle.std.proofs.Common.{arith}
use Rattle.boolean.proofs.Filled.{filled_whole}
use Rattle.constructions.specs.Enlargement.{enlarged_rows}
use Rattle.constructions.proofs.write_box.Goals as goal

pub returns : goal.returns
unfolding enlarged_rows
returns c = filled_whole _ _ _ _ _ c.loop-x.invariant (omega (arith, c.loop-x.invariant.long))
