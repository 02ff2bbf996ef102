-- The array has one output difference for each pair.
use Rattle.std.proofs.Common.{arith}
use Rattle.boolean.proofs.Lists.{list_is}
use Rattle.differential.specs.XorTable.{difference}
use Rattle.differential.specs.Running.{lower_input, pair_differences}
use Rattle.differential.proofs.write_pairs.Goals as goal

pub returns : goal.returns
unfolding difference lower_input pair_differences
returns c = record {
  top = c.highest_bit-top.result;
  highest = c.highest_bit-top.ensures;
  held = list_is 0 _ _ _ (omega arith) (λ k h. c.loop-y.invariant k (omega arith));
}
