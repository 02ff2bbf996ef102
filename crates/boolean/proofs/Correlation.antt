-- The autocorrelation: the transform of the squares of the Walsh values gives it back, it counts the changes, and an affine function that is added changes
-- at most its sign. Assumes nothing.
use mathlib.Core.Path.{◌≡◌, sym, ap, ap₂, ◌∙◌}
use mathlib.Core.Bool.{Bool, cond, not}
use mathlib.Core.List.{[], ◌∷◌}
use Prim.Native.Nat.{ℕ, zero, suc, ◌+◌, ◌*◌, ◌-◌, ◌^◌, ◌<◌, ◌≤◌}
use native.Mathlib.Nat.{not-suc-le-zero, two-pow-succ}
use native.Mathlib.Omega.{arith}
use borrow.Author.Tests.{eq-eqb}
use lib.Bits.{bit_xor, xor_lt, xor_zero_r}
use lib.Dec.{eqb}
use lib.IntN.{ℤ, pos, negsuc, ◌-ℤ◌, ◌*ℤ◌, nat_abs, +ℤ-neg_ℤ_cancel}
use Rattle.boolean.specs.Bits.{affine, dot}
use Rattle.boolean.specs.Functions.{walsh, transform, agreement, autocorrelation, changes, Boolean, same_value, sign}
use Rattle.boolean.proofs.Cases.{all5, same_value_lem}
use Rattle.boolean.proofs.Dots.{dot_bit, dot_xor_r}
use Rattle.boolean.proofs.Ring.{v, ◌⊞◌, ◌⊖◌, solve}
use Rattle.boolean.proofs.Transform.{transform_cong, inversion}
use Rattle.boolean.proofs.Walsh.{agree_count}
use Rattle.boolean.proofs.Spectrum.{wiener_khinchin}
use Rattle.boolean.proofs.Counts.{count_cong}
use Rattle.boolean.proofs.Sizes.{abs_sign, abs_twice}
use Rattle.boolean.proofs.Sums.{sum_cong, sum_mul, sum_ones}

-- what the squares of the Walsh values transform to
pub squares_transform : (n : ℕ) (f : ℕ → ℕ) → Boolean n f → (s : ℕ) → s < 2 ^ n
    → transform n (λ w. walsh n f w *ℤ walsh n f w) s ≡ pos (2 ^ n) *ℤ autocorrelation n f s
squares_transform n f h s l =
    transform_cong n _ _ s (λ w k. sym (wiener_khinchin n f h w k)) ∙ inversion n (λ s. autocorrelation n f s) s l

-- r(s) is 2^n less twice the changes
pub correlation_changes : (n : ℕ) (f : ℕ → ℕ) (s : ℕ) → autocorrelation n f s ≡ pos (2 ^ n) -ℤ pos (2 * changes n f s)
unfolding autocorrelation changes
correlation_changes n f s =
    sym (+ℤ-neg_ℤ_cancel (autocorrelation n f s) (pos (2 * changes n f s)))
    ∙ ap (λ (z : ℤ). z -ℤ pos (2 * changes n f s)) (agree_count (2 ^ n) f (λ x. f (bit_xor x s)))

-- so what the changes are off one half of the inputs is half of |r(s)|
pub correlation_half : (n : ℕ) (f : ℕ → ℕ) (s : ℕ) → 1 ≤ n → nat_abs (pos (2 ^ (n - 1)) -ℤ pos (changes n f s)) * 2 ≡ nat_abs (autocorrelation n f s)
correlation_half zero f s h = absurd (not-suc-le-zero h)
correlation_half (suc n) f s h =
    let d = changes (suc n) f s in
    let twice : d + d ≡ 2 * d = omega arith in
    let less : suc n - 1 ≡ n = omega arith in
    ap (λ (k : ℕ). nat_abs (pos (2 ^ k) -ℤ pos d) * 2) less ∙ abs_twice (pos (2 ^ n) -ℤ pos d)
    ∙ ap nat_abs
    (solve (pos (2 ^ n) ∷ pos d ∷ []) ((v 0 ⊖ v 1) ⊞ (v 0 ⊖ v 1)) ((v 0 ⊞ v 0) ⊖ (v 1 ⊞ v 1)) tt
    ∙ ap₂ (λ (a b : ℕ). pos a -ℤ pos b) (sym (two-pow-succ n)) twice ∙ sym (correlation_changes (suc n) f s))

-- r(0) is 2^n: every input agrees with itself
pub correlation_zero : (n : ℕ) (f : ℕ → ℕ) → autocorrelation n f 0 ≡ pos (2 ^ n)
unfolding autocorrelation agreement
correlation_zero n f =
    sum_cong (2 ^ n) _ _ (λ x l. ap (λ (t : Bool). cond t (pos 1) (negsuc 0)) (eq-eqb (f x) (f (bit_xor x 0)) (ap f (sym (xor_zero_r x)))))
    ∙ sum_ones (2 ^ n)

-- equal functions have the same changes
pub changes_cong : (n : ℕ) (f g : ℕ → ℕ) (s : ℕ) → ((x : ℕ) → f x ≡ g x) → changes n f s ≡ changes n g s
unfolding changes
changes_cong n f g s h = count_cong (2 ^ n) _ _ (λ x l. ap₂ (λ (a b : ℕ). not (eqb a b)) (h x) (h (bit_xor x s)))

-- and functions that are equal below 2^n the same r(s)
pub correlation_cong : (n : ℕ) (f g : ℕ → ℕ) (s : ℕ) → s < 2 ^ n → ((x : ℕ) → x < 2 ^ n → f x ≡ g x) → autocorrelation n f s ≡ autocorrelation n g s
unfolding autocorrelation
correlation_cong n f g s hs h = sum_cong (2 ^ n) _ _ (λ x l. ap₂ agreement (h x l) (h (bit_xor x s) (xor_lt n x s l hs)))

-- ---- an affine function added to f: at x and at x XOR s it is D XOR b and D XOR E XOR b, where D is w·x and E is w·s
agreement_added : (F G D E b : ℕ) → F < 2 → G < 2 → D < 2 → E < 2 → b < 2
    → agreement (bit_xor F (bit_xor D b)) (bit_xor G (bit_xor (bit_xor D E) b)) ≡ sign E *ℤ agreement F G
unfolding agreement sign
agreement_added F G D E b hF hG hD hE hb =
    same_value_lem (agreement (bit_xor F (bit_xor D b)) (bit_xor G (bit_xor (bit_xor D E) b))) (sign E *ℤ agreement F G)
    (all5 (λ F G D E b. same_value (agreement (bit_xor F (bit_xor D b)) (bit_xor G (bit_xor (bit_xor D E) b))) (sign E *ℤ agreement F G)) tt F G D E b hF hG hD hE hb)

module _ (n : ℕ) (f : ℕ → ℕ) (w b : ℕ) (h : Boolean n f) (hb : b < 2) (s : ℕ) (hs : s < 2 ^ n) where
  -- r(s) changes at most its sign
  pub correlation_added : autocorrelation n (λ x. bit_xor (f x) (affine w b x)) s ≡ sign (dot w s) *ℤ autocorrelation n f s
  unfolding autocorrelation affine
  correlation_added =
      sum_cong (2 ^ n) _ _ (λ x l.
      ap (λ (z : ℕ). agreement (bit_xor (f x) (bit_xor (dot w x) b)) (bit_xor (f (bit_xor x s)) (bit_xor z b))) (dot_xor_r w x s)
      ∙ agreement_added (f x) (f (bit_xor x s)) (dot w x) (dot w s) b (h x l) (h (bit_xor x s) (xor_lt n x s l hs)) (dot_bit w x) (dot_bit w s) hb)
      ∙ sum_mul (sign (dot w s)) (2 ^ n) (λ x. agreement (f x) (f (bit_xor x s)))

  -- and |r(s)| stays
  pub correlation_size : nat_abs (autocorrelation n (λ x. bit_xor (f x) (affine w b x)) s) ≡ nat_abs (autocorrelation n f s)
  correlation_size = ap nat_abs correlation_added ∙ abs_sign (dot w s) (autocorrelation n f s)
