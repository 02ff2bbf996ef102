-- One row with a bit flipped: the shift stays within 32 bits.
-- Assumes nothing.
use Prim.Native.Nat.{ℕ, ◌-◌, ◌*◌, ◌%◌, ◌^◌, ◌≤◌, ◌<◌}
use mathlib.Core.Path.{◌≡◌, ap, ◌∙◌}
use native.Mathlib.Omega.{arith}
use lib.Bits.{bit_xor, xor_lt}
use lib.Pow.{shl_exact}
use Rattle.boolean.specs.Bits.{dot, affine}
use Rattle.columns.specs.Addition.{added_row}

pub row_is : (j w b x row d : ℕ) → 1 ≤ j → j ≤ 32 → b < 2 → d ≡ dot w x → d < 2 → bit_xor row (bit_xor d b * 2 ^ (j - 1) % 2 ^ 32) ≡ added_row j w b x row
unfolding added_row affine
row_is j w b x row d low high hb e hd =
    ap (λ (v : ℕ). bit_xor row v)
    (shl_exact 1 (j - 1) 32 (xor_lt 1 d b hd hb) (omega arith) ∙ ap (λ (z : ℕ). bit_xor z b * 2 ^ (j - 1)) e)
