-- Eight bits to a byte.
use mathlib.Core.Path.{ap}
use Prim.Native.Nat.{ℕ, ◌/◌, ◌%◌}
use Rattle.packing.proofs.Places.{byte_power}
use Rattle.packing.proofs.byte_of.Goals as goal

pub returns : goal.returns
returns c = ap (λ (z : ℕ). c.args.word / z % 256) (byte_power c.args.group)
