-- Bits, the inner product and the affine functions. Bit 1 is the lowest.
use Rattle.std.specs.Prelude.{ℕ, ◌-◌, ◌/◌, ◌%◌, ◌^◌, Bool, eqb}
use Rattle.std.specs.Int.Bits.{bit_and, bit_xor}
use Rattle.std.specs.Int.Count.{ones}

-- the parity of the ones in v
unfoldable pub parity : ℕ → ℕ
parity v = ones v % 2

-- w·x, the inner product: the parity of the ones in (w AND x)
unfoldable pub dot : (w x : ℕ) → ℕ
unfolding parity
dot w x = parity (bit_and w x)

-- the affine function (w, b) at x: w·x XOR b
unfoldable pub affine : (w b x : ℕ) → ℕ
unfolding dot
affine w b x = bit_xor (dot w x) b

-- bit j of v, the lowest being bit 1 (j = 0, which no call reaches, reads as 1: natural numbers stop at 0)
unfoldable pub bit : (j v : ℕ) → ℕ
bit j v = v / 2 ^ (j - 1) % 2

-- whether the ones of x lie within u
unfoldable pub ones_within : (u x : ℕ) → Bool
ones_within u x = eqb (bit_and x u) x
