-- The output differences are the array's entries.
use Rattle.std.proofs.Common.{arith}
use Rattle.boolean.proofs.Lists.{list_is}
use Rattle.differential.specs.XorTable.{difference}
use Rattle.differential.specs.Work.{differences_of}
use Rattle.differential.proofs.write_differences.Goals as goal

pub returns : goal.returns
unfolding difference differences_of
returns c = let known = c.loop-x.invariant in list_is 0 _ _ _ known.0 (λ k h. known.1 k (omega arith))
