use Rattle.std.proofs.Common.{arith}
use Rattle.boolean.proofs.Filled.{filled_whole}
use Rattle.constructions.specs.BentForm.{bent_table}
use Rattle.constructions.proofs.write_bent.Goals as goal

pub returns : goal.returns
unfolding bent_table
returns c = filled_whole _ _ _ _ _ c.loop-z.invariant (omega (arith, c.loop-z.invariant.long))
