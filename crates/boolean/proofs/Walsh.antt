-- The Walsh transform of 0/1 functions and tables.
use mathlib.Core.Path.{◌≡◌, refl, sym, ap, ap₂, ◌∙◌, subst}
use mathlib.Core.Bool.{Bool, true, false, not, cond}
use Prim.Native.Nat.{ℕ, zero, suc, ◌+◌, ◌*◌, ◌-◌, ◌^◌, ◌<◌, ◌≤◌}
use native.Mathlib.Nat.{add-zero, mul-add}
use native.Mathlib.Omega.{arith}
use native.Mathlib.Numerals.{one-add, add-one}
use lib.Dec.{eqb, ltb}
use lib.Bits.{bit_xor, xor_zero_r}
use lib.IntN.{ℤ, pos, negsuc, ◌+ℤ◌, ◌-ℤ◌, ◌*ℤ◌, nat_abs, +ℤ-neg_ℤ_cancel}
use Rattle.boolean.specs.Bits.{dot, affine}
use Rattle.boolean.specs.Functions.{sign, agreement, walsh, distance, transform, Boolean}
use Rattle.boolean.specs.Sums.{sum_below, count_below, one_if}
use Rattle.boolean.proofs.Ints.{add4, swap}
use Rattle.boolean.proofs.Dots.{bit_cases, dot_bit}
use Rattle.boolean.proofs.Sums.{sum_cong}
use Rattle.boolean.proofs.Counts.{count_le, count_cong, count_not}
use Rattle.boolean.proofs.Transform.{transform_low, transform_high, lower_lt, upper_lt}

pub agree_signs : (a b : ℕ) → a < 2 → b < 2 → agreement a b ≡ sign b *ℤ sign a
unfolding agreement sign
agree_signs a b ha hb =
    bit_cases (λ a. agreement a b ≡ sign b *ℤ sign a)
    (bit_cases (λ b. agreement 0 b ≡ sign b *ℤ sign 0) refl refl b hb) (bit_cases (λ b. agreement 1 b ≡ sign b *ℤ sign 1) refl refl b hb) a ha

pub walsh_transform : (n : ℕ) (f : ℕ → ℕ) (w : ℕ) → Boolean n f → walsh n f w ≡ transform n (λ x. sign (f x)) w
unfolding walsh transform
walsh_transform n f w h = sum_cong (2 ^ n) _ _ (λ x l. agree_signs (f x) (dot w x) (h x l) (dot_bit w x))

pub walsh_cong : (n : ℕ) (f g : ℕ → ℕ) (w : ℕ) → ((x : ℕ) → x < 2 ^ n → f x ≡ g x) → walsh n f w ≡ walsh n g w
unfolding walsh
walsh_cong n f g w h = sum_cong (2 ^ n) _ _ (λ x l. ap (λ (z : ℕ). agreement z (dot w x)) (h x l))

-- ---- halving
module _ (n : ℕ) (f : ℕ → ℕ) (w : ℕ) (h : Boolean (suc n) f) (l : w < 2 ^ n) where
  lower_bits : Boolean n f
  lower_bits x k = h x (lower_lt n x k)

  upper_bits : Boolean n (λ x. f (2 ^ n + x))
  upper_bits x k = h (2 ^ n + x) (upper_lt n x k)

  pub walsh_low : walsh (suc n) f w ≡ walsh n f w +ℤ walsh n (λ x. f (2 ^ n + x)) w
  walsh_low =
      walsh_transform (suc n) f w h ∙ transform_low n (λ x. sign (f x)) w l
      ∙ sym (ap₂ (λ (a b : ℤ). a +ℤ b) (walsh_transform n f w lower_bits) (walsh_transform n (λ x. f (2 ^ n + x)) w upper_bits))

  pub walsh_high : walsh (suc n) f (2 ^ n + w) ≡ walsh n f w -ℤ walsh n (λ x. f (2 ^ n + x)) w
  walsh_high =
      walsh_transform (suc n) f (2 ^ n + w) h ∙ transform_high n (λ x. sign (f x)) w l
      ∙ sym (ap₂ (λ (a b : ℤ). a -ℤ b) (walsh_transform n f w lower_bits) (walsh_transform n (λ x. f (2 ^ n + x)) w upper_bits))

-- ---- the distance
pub agree_count : (k : ℕ) (f g : ℕ → ℕ) → sum_below k (λ x. agreement (f x) (g x)) +ℤ pos (2 * count_below k (λ x. not (eqb (f x) (g x)))) ≡ pos k
unfolding sum_below agreement count_below one_if
agree_count zero f g = refl
agree_count (suc k) f g = step (eqb (f k) (g k)) (sum_below k (λ x. agreement (f x) (g x))) (count_below k (λ x. not (eqb (f x) (g x)))) (agree_count k f g)
  where
    step : (b : Bool) (S : ℤ) (c : ℕ) → S +ℤ pos (2 * c) ≡ pos k → (S +ℤ cond b (pos 1) (negsuc 0)) +ℤ pos (2 * (c + one_if (not b))) ≡ pos (suc k)
    step true S c e =
        ap (λ (n : ℕ). (S +ℤ pos 1) +ℤ pos (2 * n)) (add-zero c) ∙ swap S (pos 1) (pos (2 * c)) ∙ ap (λ (z : ℤ). pos 1 +ℤ z) e ∙ ap pos (one-add k)
    step false S c e =
        ap (λ (n : ℕ). (S +ℤ negsuc 0) +ℤ pos n) (mul-add 2 c 1) ∙ add4 S (negsuc 0) (pos (2 * c)) (pos 2) ∙ ap (λ (z : ℤ). z +ℤ pos 1) e ∙ ap pos (add-one k)

pub walsh_distance : (n : ℕ) (f : ℕ → ℕ) (w : ℕ) → walsh n f w ≡ pos (2 ^ n) -ℤ pos (2 * distance n f w 0)
unfolding walsh distance affine
walsh_distance n f w =
    sym (+ℤ-neg_ℤ_cancel (walsh n f w) (pos (2 * distance'))) ∙ ap (λ (z : ℤ). z -ℤ pos (2 * distance')) (agree_count (2 ^ n) f (λ x. dot w x))
    ∙ ap (λ (d : ℕ). pos (2 ^ n) -ℤ pos (2 * d)) (count_cong (2 ^ n) _ _ (λ x l. ap (λ (z : ℕ). not (eqb (f x) z)) (sym (xor_zero_r (dot w x)))))
  where
    distance' : ℕ
    distance' = count_below (2 ^ n) (λ x. not (eqb (f x) (dot w x)))

differ_flip : (a b : ℕ) → a < 2 → b < 2 → not (eqb a (bit_xor b 1)) ≡ not (not (eqb a (bit_xor b 0)))
differ_flip a b ha hb =
    bit_cases (λ a. not (eqb a (bit_xor b 1)) ≡ not (not (eqb a (bit_xor b 0))))
    (bit_cases (λ b. not (eqb 0 (bit_xor b 1)) ≡ not (not (eqb 0 (bit_xor b 0)))) refl refl b hb)
    (bit_cases (λ b. not (eqb 1 (bit_xor b 1)) ≡ not (not (eqb 1 (bit_xor b 0)))) refl refl b hb) a ha

pub distance_sum : (n : ℕ) (f : ℕ → ℕ) (w : ℕ) → Boolean n f → distance n f w 0 + distance n f w 1 ≡ 2 ^ n
unfolding distance affine
distance_sum n f w h =
    ap (λ (z : ℕ). distance n f w 0 + z) (count_cong (2 ^ n) _ _ (λ x l. differ_flip (f x) (dot w x) (h x l) (dot_bit w x)))
    ∙ count_not (2 ^ n) (λ x. not (eqb (f x) (bit_xor (dot w x) 0)))

pub distance_flip : (n : ℕ) (f : ℕ → ℕ) (w : ℕ) → Boolean n f → distance n f w 1 ≡ 2 ^ n - distance n f w 0
distance_flip n f w h = omega (arith, distance_sum n f w h)

abs_le : (m e : ℕ) → e ≤ m + m → nat_abs (pos m -ℤ pos e) ≤ m
abs_le m zero h = omega arith
abs_le m (suc e) h = pick (ltb m (suc e))
  where
    pick : (b : Bool) → nat_abs (cond b (negsuc (suc e - suc m)) (pos (m - suc e))) ≤ m
    pick true = omega arith
    pick false = omega arith

pub walsh_le : (n : ℕ) (f : ℕ → ℕ) (w : ℕ) → nat_abs (walsh n f w) ≤ 2 ^ n
unfolding distance affine
walsh_le n f w = subst (λ (z : ℤ). nat_abs z ≤ 2 ^ n) (sym (walsh_distance n f w)) (abs_le (2 ^ n) (2 * distance n f w 0) (omega (arith, count_le (2 ^ n) (λ x. not (eqb (f x) (bit_xor (dot w x) 0))))))
