-- An integer that is small enough is what a 16-bit word holds of it, and a 32-bit word holds what a 16-bit word does. Assumes nothing.
use mathlib.Core.Path.{◌≡◌, sym, ◌∙◌, subst}
use Prim.Native.Nat.{◌^◌, ◌≤◌, ◌<◌}
use native.Mathlib.Omega.{arith}
use lib.IntN.{ℤ, pos, negsuc, nat_abs}
use lib.Signed.{mag}
use mir.Syntax.{w16, w32}
use mir.Val.{SFits, to_z, of_z}
use mir.Facts.{to_z-of_z}
use Rattle.boolean.proofs.Words.{word}

abbrev pub narrow : ℤ → ℤ
narrow z = to_z w16 (of_z w16 z)

pub narrow_told : (z : ℤ) → mag z < 2 ^ 15 → narrow z ≡ z
narrow_told z h = to_z-of_z {w = w16} {z = z} (record { sfits = h })

pub widens : (z : ℤ) → mag z < 2 ^ 15 → SFits w32 (narrow z)
widens z h = subst (SFits w32) (sym (narrow_told z h)) (record { sfits = omega arith })

pub widened : (z : ℤ) → mag z < 2 ^ 15 → word (narrow z) ≡ z
widened z h = to_z-of_z (widens z h) ∙ narrow_told z h

pub short_size : (z : ℤ) → mag z < 2 ^ 15 → nat_abs z ≤ 2 ^ 15
short_size (pos a) h = omega arith
short_size (negsuc a) h = omega arith
