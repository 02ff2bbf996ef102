use Rattle.std.proofs.Common.{arith}
use Rattle.boolean.proofs.Filled.{filled_whole}
use Rattle.constructions.specs.Enlargement.{enlarged_table}
use Rattle.constructions.proofs.write_column.Goals as goal

pub returns : goal.returns
unfolding enlarged_table
returns c = filled_whole _ _ _ _ _ c.loop-x.invariant (omega (arith, c.loop-x.invariant.long))
