-- All buckets hold the standings with a count of 0.
use Rattle.std.proofs.Common.{arith}
use Rattle.boolean.proofs.Lists.{list_is}
use Rattle.differential.proofs.narrow.clear_buckets.Goals as goal

pub returns : goal.returns
returns c = list_is 0 _ _ _ (omega arith) (λ k h. omega (arith, c.loop-beta.invariant k (omega arith)))
