-- The functions of degree 0 are the constants, those of degree at most 1 the affine functions; and an affine function is at distance 0 from itself alone.
use mathlib.Core.Path.{◌≡◌, refl, sym, ap, ap₂, ◌∙◌}
use mathlib.Core.Logic.{◌⊎◌, inl, inr}
use mathlib.Core.Bool.{Bool, true, false, not, true≢false}
use Prim.Native.Nat.{ℕ, zero, suc, ◌+◌, ◌^◌, ◌<◌, ◌≤◌}
use native.Mathlib.Nat.{one-mul, two-pow-succ}
use native.Mathlib.Decide.{dec_le, ℕ_discrete}
use native.Mathlib.Omega.{arith}
use borrow.Author.Tests.{eq-eqb, eqb-true}
use lib.Arith.{lt-one}
use lib.Bits.{bit_xor, xor_comm, xor_lt, xor_self, xor_zero_r}
use lib.Count.{ones, ones_cat, ones-le}
use lib.Dec.{eqb}
use lib.Pow.{pow_pos}
use Rattle.boolean.specs.Bits.{dot, affine}
use Rattle.boolean.specs.Functions.{Boolean, coefficient, degree, distance}
use Rattle.boolean.specs.Statements.{Same, IsAffine}
use Rattle.boolean.proofs.Counted.{count_no, count_zero}
use Rattle.boolean.proofs.Degrees.{le_degree, degree_reached}
use Rattle.boolean.proofs.Dots.{bit_cases, dot_zero, dot_01, dot_10, dot_11}
use Rattle.boolean.proofs.NormalForm.{difference, coefficient_cong, coefficient_boolean, coefficient_none, coefficient_constant, coefficient_low, coefficient_difference, normal_form_involution}
use Rattle.boolean.proofs.OneBit.{ones_one, ones_power, power_of_ones}
use Rattle.boolean.proofs.Transform.{half_cases}
use Rattle.boolean.proofs.Xor.{xor_assoc, xor_cancel_left, xor_equal}

-- no coefficient stands at two ones or more
abbrev pub Low : ℕ → (ℕ → ℕ) → Type 0
Low n f = (u : ℕ) → u < 2 ^ n → 2 ≤ ones u → coefficient n f u ≡ 0

-- ---- the ones of a number with the top bit
ones_top : (n u : ℕ) → u < 2 ^ n → ones (2 ^ n + u) ≡ 1 + ones u
ones_top n u h = ap (λ (k : ℕ). ones (k + u)) (sym (one-mul (2 ^ n))) ∙ ones_cat n 1 u h ∙ ap (λ (k : ℕ). k + ones u) ones_one

some_one : (n u : ℕ) → u < 2 ^ n → (u ≡ 0 → ⊥) → 1 ≤ ones u
some_one n u h ne = pick (dec_le 1 (ones u))
  where
    pick : Dec (1 ≤ ones u) → 1 ≤ ones u
    pick (yes l) = l
    pick (no l) =
        let t = power_of_ones n u (omega arith) h (omega arith) in
        omega (arith, ap ones t.2, ones_power t.0)

-- ---- no coefficient at all, and none but at 0
nothing : (n : ℕ) (f : ℕ → ℕ) → Same n (λ u. coefficient n f u) (λ u. 0) → Same n f (λ x. 0)
nothing n f h x l = sym (normal_form_involution n f x l) ∙ coefficient_cong n (λ u. coefficient n f u) (λ u. 0) x h ∙ coefficient_none n x

none_above : (n : ℕ) (f : ℕ → ℕ) → ((u : ℕ) → u < 2 ^ suc n → (u ≡ 0 → ⊥) → coefficient (suc n) f u ≡ 0) → Same n (difference n f) (λ x. 0)
none_above n f h =
    nothing n (difference n f)
    (λ u l. sym (coefficient_difference n f u l) ∙ h (2 ^ n + u) (omega (arith, l, two-pow-succ n)) (λ e. omega (arith, pow_pos n)))

constant : (n : ℕ) (f : ℕ → ℕ) → ((u : ℕ) → u < 2 ^ n → (u ≡ 0 → ⊥) → coefficient n f u ≡ 0) → Same n f (λ x. f 0)
constant zero f h x l = ap f (lt-one l)
constant (suc n) f h x l =
    let lower = constant n f (λ u k ne. sym (coefficient_low n f u k) ∙ h u (omega (arith, k, two-pow-succ n)) ne) in
    half_cases n (λ x. f x ≡ f 0) lower (λ x k. xor_equal (f x) (f (2 ^ n + x)) (none_above n f h x k) ∙ lower x k) x l

-- ---- a function without coefficients at two ones or more is affine
-- the lower half is affine, and the upper differs from it by a constant
module _ (n : ℕ) (f : ℕ → ℕ) (w b : ℕ) (hw : w < 2 ^ n) (hb : b < 2) (lower : Same n f (affine w b)) where
  upper : (t : ℕ) → Same n (difference n f) (λ x. t) → (x : ℕ) → x < 2 ^ n → f (2 ^ n + x) ≡ bit_xor (affine w b x) t
  upper t h x l = sym (xor_cancel_left (f x) (f (2 ^ n + x))) ∙ ap₂ bit_xor (lower x l) (h x l)

  without_top : Same n (difference n f) (λ x. 0) → IsAffine (suc n) f
  unfolding affine
  without_top h = (
    w,
    b,
    omega (arith, two-pow-succ n),
    hb,
    half_cases n (λ x. f x ≡ affine w b x) lower
        (λ x l. upper 0 h x l ∙ xor_zero_r (affine w b x) ∙ ap (λ (d : ℕ). bit_xor d b) (sym (dot_01 n w x hw l))),
  )

  with_top : Same n (difference n f) (λ x. 1) → IsAffine (suc n) f
  unfolding affine
  with_top h = (
    2 ^ n + w,
    b,
    omega (arith, two-pow-succ n),
    hb,
    half_cases n (λ x. f x ≡ affine (2 ^ n + w) b x) (λ x l. lower x l ∙ ap (λ (d : ℕ). bit_xor d b) (sym (dot_10 n w x hw l)))
        (λ x l.
        upper 1 h x l ∙ xor_comm (affine w b x) 1 ∙ sym (xor_assoc 1 (dot w x) b)
        ∙ ap (λ (d : ℕ). bit_xor d b) (sym (dot_11 n w x hw l))),
  )

pub low_affine : (n : ℕ) (f : ℕ → ℕ) → Boolean n f → Low n f → IsAffine n f
unfolding affine
low_affine zero f h low = (0, f 0, pow_pos 0, h 0 (pow_pos 0), λ x l. ap f (lt-one l) ∙ ap (λ (d : ℕ). bit_xor d (f 0)) (sym (dot_zero x)))
low_affine (suc n) f h low =
    let t = low_affine n f (λ x l. h x (omega (arith, l, two-pow-succ n))) (λ u l k. sym (coefficient_low n f u l) ∙ low u (omega (arith, l, two-pow-succ n)) k) in
    bit_cases (λ d. Same n (difference n f) (λ x. d) → IsAffine (suc n) f) (without_top n f t.0 t.1 t.2 t.3 t.4) (with_top n f t.0 t.1 t.2 t.3 t.4)
    (difference n f 0) bit even
  where
    bit : difference n f 0 < 2
    bit = xor_lt 1 (f 0) (f (2 ^ n + 0)) (h 0 (pow_pos (suc n))) (h (2 ^ n + 0) (omega (arith, pow_pos n, two-pow-succ n)))

    even : Same n (difference n f) (λ x. difference n f 0)
    even = constant n (difference n f)
        (λ u l ne. sym (coefficient_difference n f u l) ∙ low (2 ^ n + u) (omega (arith, l, two-pow-succ n)) (omega (arith, ones_top n u l, some_one n u l ne)))

-- ---- and an affine function has none
low_halves : (n : ℕ) (f : ℕ → ℕ) (t : ℕ) → Low n f → Same n (difference n f) (λ x. t) → Low (suc n) f
low_halves n f t low h = half_cases n (λ u. 2 ≤ ones u → coefficient (suc n) f u ≡ 0) (λ u l k. coefficient_low n f u l ∙ low u l k)
    (λ u l k.
    coefficient_difference n f u l ∙ coefficient_cong n (difference n f) (λ x. t) u h
    ∙ coefficient_constant n t u l (λ e. omega (arith, ones_top n u l, ones-le 0 u (omega arith))))

pub affine_low : (n : ℕ) (f : ℕ → ℕ) (w b : ℕ) → w < 2 ^ n → Same n f (affine w b) → Low n f
unfolding affine
affine_low zero f w b hw h = λ u l k. absurd (omega (arith, ones-le 0 u l))
affine_low (suc n) f w b hw h = half_cases n (λ w. Same (suc n) f (affine w b) → Low (suc n) f)
    (λ w l h.
    low_halves n f 0 (affine_low n f w b l (λ x k. h x (omega (arith, k, two-pow-succ n))))
    (λ x k. ap₂ bit_xor (h x (omega (arith, k, two-pow-succ n))) (h (2 ^ n + x) (omega (arith, k, two-pow-succ n)) ∙ ap (λ (d : ℕ). bit_xor d b) (dot_01 n w x l k)) ∙ xor_self (affine w b x)))
    (λ w l h.
    low_halves n f 1 (affine_low n f w b l (λ x k. h x (omega (arith, k, two-pow-succ n)) ∙ ap (λ (d : ℕ). bit_xor d b) (dot_10 n w x l k)))
    (λ x k.
    ap₂ bit_xor (h x (omega (arith, k, two-pow-succ n)) ∙ ap (λ (d : ℕ). bit_xor d b) (dot_10 n w x l k))
    (h (2 ^ n + x) (omega (arith, k, two-pow-succ n)) ∙ ap (λ (d : ℕ). bit_xor d b) (dot_11 n w x l k) ∙ xor_assoc 1 (dot w x) b ∙ xor_comm 1 (affine w b x))
    ∙ xor_cancel_left (affine w b x) 1)) w hw h

-- ---- the degree and the distance
module _ (n : ℕ) (f : ℕ → ℕ) where
  -- the degree is at most 1 exactly where no coefficient stands at two ones or more
  low_of_degree : Boolean n f → degree n f ≤ 1 → Low n f
  low_of_degree h d u l k =
      bit_cases (λ a. coefficient n f u ≡ a → coefficient n f u ≡ 0) (λ e. e) (λ e. absurd (omega (arith, le_degree n f u l e))) (coefficient n f u)
      (coefficient_boolean n f u h) refl

  degree_of_low : Low n f → degree n f ≤ 1
  degree_of_low low = pick (degree_reached n f)
    where
      pick : (degree n f ≡ 0) ⊎ ((u : ℕ) × (u < 2 ^ n) × (coefficient n f u ≡ 1) × (ones u ≡ degree n f)) → degree n f ≤ 1
      pick (inl z) = omega arith
      pick (inr t) = few (dec_le (ones t.0) 1)
        where
          few : Dec (ones t.0 ≤ 1) → degree n f ≤ 1
          few (yes l) = omega (arith, t.3)
          few (no l) = absurd (omega (arith, t.2, low t.0 t.1 (omega arith)))

  -- a constant has degree 0, and what has degree 0 is constant
  pub constant_degree : (t : ℕ) → Same n f (λ x. t) → degree n f ≡ 0
  constant_degree t h = pick (degree_reached n f)
    where
      at_zero : (u : ℕ) → u < 2 ^ n → coefficient n f u ≡ 1 → Dec (u ≡ 0) → ones u ≡ 0
      at_zero u l e (yes z) = omega (arith, ones-le 0 u (omega arith))
      at_zero u l e (no ne) = absurd (omega (arith, coefficient_cong n f (λ x. t) u h ∙ coefficient_constant n t u l ne))

      pick : (degree n f ≡ 0) ⊎ ((u : ℕ) × (u < 2 ^ n) × (coefficient n f u ≡ 1) × (ones u ≡ degree n f)) → degree n f ≡ 0
      pick (inl z) = z
      pick (inr s) = sym s.3 ∙ at_zero s.0 s.1 s.2 (ℕ_discrete s.0 0)

  pub degree_constant : Boolean n f → degree n f ≡ 0 → Same n f (λ x. f 0)
  degree_constant h d =
      constant n f
      (λ u l ne.
      bit_cases (λ a. coefficient n f u ≡ a → coefficient n f u ≡ 0) (λ e. e) (λ e. absurd (omega (arith, le_degree n f u l e, some_one n u l ne))) (coefficient n f u)
      (coefficient_boolean n f u h) refl)

  -- a function of degree at most 1 is affine
  pub degree_affine : Boolean n f → degree n f ≤ 1 → IsAffine n f
  degree_affine h d = low_affine n f h (low_of_degree h d)

  -- and an affine function has degree at most 1
  pub affine_degree : (w b : ℕ) → w < 2 ^ n → Same n f (affine w b) → degree n f ≤ 1
  affine_degree w b l h = degree_of_low (affine_low n f w b l h)

  -- no input at which they differ: equal everywhere
  pub distance_none : (w b : ℕ) → Same n f (affine w b) → distance n f w b ≡ 0
  unfolding distance
  distance_none w b h = count_no (2 ^ n) _ (λ x l. ap not (eq-eqb (f x) (affine w b x) (h x l)))

  pub distance_same : (w b : ℕ) → distance n f w b ≡ 0 → Same n f (affine w b)
  unfolding distance
  distance_same w b e x l = pick (eqb (f x) (affine w b x)) refl (count_zero (2 ^ n) (λ x. not (eqb (f x) (affine w b x))) e x l)
    where
      pick : (t : Bool) → eqb (f x) (affine w b x) ≡ t → not t ≡ false → f x ≡ affine w b x
      pick true q r = eqb-true (f x) (affine w b x) q
      pick false q r = absurd (true≢false r)
