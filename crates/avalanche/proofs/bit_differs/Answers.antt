use Rattle.std.proofs.Common.{refl}
use Rattle.boolean.specs.Bits.{bit}
use Rattle.avalanche.proofs.bit_differs.Goals as goal

pub returns : goal.returns
unfolding bit
returns c = refl
