-- All rows make the whole array.
use native.Mathlib.Omega.{arith}
use Rattle.boolean.proofs.Lists.{list_is}
use Rattle.packing.proofs.write_rows.Goals as goal

pub returns : goal.returns
returns c = list_is 0 _ _ c.loop-x.out (omega arith) (λ k h. c.loop-x.invariant k (omega arith))
