-- The size of a multiple and of a square, and the machine's product of a small word with itself.
use mathlib.Core.Path.{◌≡◌, refl, sym, ap, ap₂, ◌∙◌, subst}
use Prim.Native.Nat.{ℕ, ◌*◌, ◌^◌, ◌≤◌}
use native.Mathlib.Nat.{le_trans, le_of_eq, mul-le-mul}
use native.Mathlib.Omega.{arith}
use lib.Dec.{lit≤}
use lib.IntN.{ℤ, pos, negsuc, ◌*ℤ◌, nat_abs}
use mir.Syntax.{w32}
use mir.Val.{SFits}
use Rattle.boolean.specs.Functions.{square}
use Rattle.boolean.proofs.Sizes.{abs_neg}
use Rattle.boolean.proofs.Spectrum.{square_is}
use Rattle.boolean.proofs.Words.{word, word_is, fits_word}

pub abs_multiple : (k : ℕ) (z : ℤ) → nat_abs (pos k *ℤ z) ≡ k * nat_abs z
abs_multiple k (pos x) = refl
abs_multiple k (negsuc x) = abs_neg (pos (k * nat_abs (negsuc x)))

pub abs_square : (z : ℤ) → nat_abs (z *ℤ z) ≡ nat_abs z * nat_abs z
unfolding square
abs_square z = ap nat_abs (square_is z)

module _ (z : ℤ) (small : nat_abs z ≤ 256) where
  product_word : word z *ℤ word z ≡ z *ℤ z
  product_word = let e = word_is z (omega arith) in ap₂ (λ (x y : ℤ). x *ℤ y) e e

  product_small : nat_abs (z *ℤ z) ≤ 2 ^ 30
  product_small = le_trans (le_of_eq (abs_square z)) (le_trans (mul-le-mul small small) (lit≤ tt))

  pub product_fits : SFits w32 (word z *ℤ word z)
  product_fits = subst (SFits w32) (sym product_word) (fits_word (z *ℤ z) product_small)

  pub product_stored : word (word z *ℤ word z) ≡ z *ℤ z
  product_stored = ap word product_word ∙ word_is (z *ℤ z) product_small
