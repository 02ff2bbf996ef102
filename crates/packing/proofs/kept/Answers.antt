-- The shift loses no bit of the mask, which keeps these bits.
use mathlib.Core.Path.{ap, ◌∙◌}
use Prim.Native.Nat.{ℕ}
use native.Mathlib.Omega.{arith}
use lib.Bits.{bit_and}
use lib.Dec.{lit<}
use lib.Pow.{shl_exact}
use Rattle.packing.proofs.Gathering.{kept_is}
use Rattle.packing.proofs.kept.Goals as goal

pub returns : goal.returns
returns c =
    ap (λ (z : ℕ). bit_and c.args.v z) (shl_exact 25 c.args.i 64 (lit< tt) (omega arith)) ∙ kept_is c.args.v c.args.i
