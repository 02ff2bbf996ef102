-- An integer that is small enough is what a 32-bit word holds of it.
use mathlib.Core.Path.{◌≡◌, sym, ap, ap₂, ◌∙◌, subst}
use Prim.Native.Nat.{◌^◌, ◌≤◌, ◌<◌}
use native.Mathlib.Nat.{le_refl}
use native.Mathlib.Omega.{arith}
use lib.IntN.{ℤ, pos, negsuc, ◌+ℤ◌, ◌-ℤ◌, nat_abs}
use lib.Signed.{mag}
use mir.Syntax.{w32}
use mir.Val.{SFits, to_z, of_z}
use mir.Facts.{to_z-of_z}
use Rattle.boolean.proofs.Sizes.{abs_add, abs_sub}

pub mag_abs : (z : ℤ) → mag z ≤ nat_abs z
mag_abs (pos a) = le_refl a
mag_abs (negsuc a) = omega arith

pub fits_word : (z : ℤ) → nat_abs z ≤ 2 ^ 30 → SFits w32 z
fits_word z h = record { sfits = omega (arith, mag_abs z) }

-- what a word that was given z holds
abbrev pub word : ℤ → ℤ
word z = to_z w32 (of_z w32 z)

pub word_is : (z : ℤ) → nat_abs z ≤ 2 ^ 30 → word z ≡ z
word_is z h = to_z-of_z (fits_word z h)

-- a call's result, of which `.ok` tells the bound
pub word_told : (z : ℤ) → mag z < 2 ^ 31 → word z ≡ z
word_told z h = to_z-of_z {w = w32} {z = z} (record { sfits = h })

-- the machine's sum and difference of two words that hold small integers
module _ (a b : ℤ) (ha : nat_abs a ≤ 2 ^ 29) (hb : nat_abs b ≤ 2 ^ 29) where
  word_a : word a ≡ a
  word_a = word_is a (omega arith)

  word_b : word b ≡ b
  word_b = word_is b (omega arith)

  sum_small : nat_abs (a +ℤ b) ≤ 2 ^ 30
  sum_small = omega (arith, abs_add a b)

  difference_small : nat_abs (a -ℤ b) ≤ 2 ^ 30
  difference_small = omega (arith, abs_sub a b)

  sum_word : word a +ℤ word b ≡ a +ℤ b
  sum_word = ap₂ (λ (x y : ℤ). x +ℤ y) word_a word_b

  difference_word : word a -ℤ word b ≡ a -ℤ b
  difference_word = ap₂ (λ (x y : ℤ). x -ℤ y) word_a word_b

  pub sum_fits : SFits w32 (word a +ℤ word b)
  sum_fits = subst (SFits w32) (sym sum_word) (fits_word (a +ℤ b) sum_small)

  pub difference_fits : SFits w32 (word a -ℤ word b)
  difference_fits = subst (SFits w32) (sym difference_word) (fits_word (a -ℤ b) difference_small)

  pub difference_stored : word (word a -ℤ word b) ≡ a -ℤ b
  difference_stored = ap word difference_word ∙ word_is (a -ℤ b) difference_small
