-- The normal form's coefficients: they are bits, a component's are parities, and the coefficients of the coefficients are the function.
use mathlib.Core.Path.{◌≡◌, refl, sym, ap, ap₂, ◌∙◌}
use mathlib.Core.Bool.{Bool, true, false, cond}
use mathlib.Core.List.{List}
use Prim.Native.Nat.{ℕ, zero, suc, ◌+◌, ◌*◌, ◌^◌, ◌<◌}
use native.Mathlib.Nat.{one-mul, zero-add, zero-mul}
use native.Mathlib.Omega.{arith}
use borrow.Author.Tests.{eq-eqb, eqb-false, eqb-true, ne_eqb}
use lib.Arith.{lt-one as below_one}
use lib.Bits.{and_block, and_le_r, bit_and, bit_xor, xor_self, xor_zero_r}
use lib.Dec.{eqb}
use lib.Pow.{pow_pos}
use Rattle.boolean.specs.Bits.{dot, ones_within}
use Rattle.boolean.specs.Functions.{Boolean, at, coefficient, component}
use Rattle.boolean.specs.Sums.{xor_below}
use Rattle.boolean.proofs.Digits.{component_dot}
use Rattle.boolean.proofs.Dots.{dot_xor, dot_zero}
use Rattle.boolean.proofs.Transform.{half_cases}
use Rattle.boolean.proofs.Xor.{xor_cancel_left, xor_below_cong, xor_below_halves, xor_below_lt, xor_below_xor, xor_below_zero}

eqb_add : (k a b : ℕ) → eqb (k + a) (k + b) ≡ eqb a b
eqb_add k a b = go (eqb a b) refl
  where
    go : (t : Bool) → eqb a b ≡ t → eqb (k + a) (k + b) ≡ t
    go true e = eq-eqb (k + a) (k + b) (ap (λ (z : ℕ). k + z) (eqb-true a b e))
    go false e = ne_eqb (k + a) (k + b) (λ q. eqb-false a b e (omega arith))

top : (n z : ℕ) → 1 * 2 ^ n + z ≡ 2 ^ n + z
top n z = ap (λ (k : ℕ). k + z) (one-mul (2 ^ n))

low : (n z : ℕ) → 0 * 2 ^ n + z ≡ z
low n z = ap (λ (k : ℕ). k + z) (zero-mul (2 ^ n)) ∙ zero-add z

-- whether the ones of x lie within u, split at the top digit
module _ (n u x : ℕ) (hu : u < 2 ^ n) (hx : x < 2 ^ n) where
  pub within_01 : ones_within u (2 ^ n + x) ≡ false
  unfolding ones_within
  within_01 =
      let e : bit_and (2 ^ n + x) u ≡ bit_and x u = ap₂ bit_and (sym (top n x)) (sym (low n u)) ∙ and_block n 1 0 x u hx hu ∙ low n (bit_and x u) in
      ne_eqb (bit_and (2 ^ n + x) u) (2 ^ n + x) (λ q. omega (arith, and_le_r x u))

  pub within_10 : ones_within (2 ^ n + u) x ≡ ones_within u x
  unfolding ones_within
  within_10 = ap (λ (z : ℕ). eqb z x) (ap₂ bit_and (sym (low n x)) (sym (top n u)) ∙ and_block n 0 1 x u hx hu ∙ low n (bit_and x u))

  pub within_11 : ones_within (2 ^ n + u) (2 ^ n + x) ≡ ones_within u x
  unfolding ones_within
  within_11 =
      ap (λ (z : ℕ). eqb z (2 ^ n + x)) (ap₂ bit_and (sym (top n x)) (sym (top n u)) ∙ and_block n 1 1 x u hx hu ∙ top n (bit_and x u))
      ∙ eqb_add (2 ^ n) (bit_and x u) x

-- ---- the coefficient at u
pub coefficient_cong : (n : ℕ) (f g : ℕ → ℕ) (u : ℕ) → ((x : ℕ) → x < 2 ^ n → f x ≡ g x) → coefficient n f u ≡ coefficient n g u
unfolding coefficient
coefficient_cong n f g u h = xor_below_cong (2 ^ n) _ _ (λ x l. ap (λ (z : ℕ). cond (ones_within u x) z 0) (h x l))

pub coefficient_xor : (n : ℕ) (f g : ℕ → ℕ) (u : ℕ) → coefficient n (λ x. bit_xor (f x) (g x)) u ≡ bit_xor (coefficient n f u) (coefficient n g u)
unfolding coefficient
coefficient_xor n f g u =
    xor_below_cong (2 ^ n) _ _ (λ x l. both (ones_within u x) (f x) (g x)) ∙ xor_below_xor (2 ^ n) (λ x. cond (ones_within u x) (f x) 0) (λ x. cond (ones_within u x) (g x) 0)
  where
    both : (t : Bool) (a b : ℕ) → cond t (bit_xor a b) 0 ≡ bit_xor (cond t a 0) (cond t b 0)
    both true a b = refl
    both false a b = refl

pub coefficient_lt : (k n : ℕ) (f : ℕ → ℕ) (u : ℕ) → ((x : ℕ) → x < 2 ^ n → f x < 2 ^ k) → coefficient n f u < 2 ^ k
unfolding coefficient
coefficient_lt k n f u h = xor_below_lt k (2 ^ n) (λ x. cond (ones_within u x) (f x) 0) (λ x l. pick (ones_within u x) (h x l))
  where
    pick : {a : ℕ} (t : Bool) → a < 2 ^ k → cond t a 0 < 2 ^ k
    pick true l = l
    pick false l = pow_pos k

pub coefficient_boolean : (n : ℕ) (f : ℕ → ℕ) (u : ℕ) → Boolean n f → coefficient n f u < 2
coefficient_boolean n f u h = coefficient_lt 1 n f u h

-- of nothing
pub coefficient_none : (n u : ℕ) → coefficient n (λ x. 0) u ≡ 0
unfolding coefficient
coefficient_none n u = xor_below_zero (2 ^ n) _ (λ x l. pick (ones_within u x))
  where
    pick : (t : Bool) → ◌≡◌ {A = ℕ} (cond t 0 0) 0
    pick true = refl
    pick false = refl

-- of a component: the parity of the word that the rows have there
dot_xor_below : (k : ℕ) (f : ℕ → ℕ) (c : ℕ) → dot (xor_below k f) c ≡ xor_below k (λ x. dot (f x) c)
unfolding xor_below
dot_xor_below zero f c = dot_zero c
dot_xor_below (suc k) f c = dot_xor (xor_below k f) (f k) c ∙ ap (λ (z : ℕ). bit_xor z (dot (f k) c)) (dot_xor_below k f c)

pub coefficient_component : (n : ℕ) (rows : List ℕ) (c u : ℕ) → dot (coefficient n (at rows) u) c ≡ coefficient n (component rows c) u
unfolding coefficient
coefficient_component n rows c u = dot_xor_below (2 ^ n) _ c ∙ xor_below_cong (2 ^ n) _ _ (λ x l. pick (ones_within u x) (at rows x) (component rows c x) (sym (component_dot rows c x)))
  where
    pick : (t : Bool) (a b : ℕ) → dot a c ≡ b → dot (cond t a 0) c ≡ cond t b 0
    pick true a b e = e
    pick false a b e = dot_zero c

-- halving
pub coefficient_low : (n : ℕ) (f : ℕ → ℕ) (u : ℕ) → u < 2 ^ n → coefficient (suc n) f u ≡ coefficient n f u
unfolding coefficient
coefficient_low n f u h =
    xor_below_halves n (λ x. cond (ones_within u x) (f x) 0)
    ∙ ap (bit_xor (coefficient n f u)) (xor_below_zero (2 ^ n) _ (λ x l. ap (λ (t : Bool). cond t (f (2 ^ n + x)) 0) (within_01 n u x h l)))
    ∙ xor_zero_r (coefficient n f u)

pub coefficient_high : (n : ℕ) (f : ℕ → ℕ) (u : ℕ) → u < 2 ^ n → coefficient (suc n) f (2 ^ n + u) ≡ bit_xor (coefficient n f u) (coefficient n (λ x. f (2 ^ n + x)) u)
unfolding coefficient
coefficient_high n f u h =
    xor_below_halves n (λ x. cond (ones_within (2 ^ n + u) x) (f x) 0)
    ∙ ap₂ bit_xor (xor_below_cong (2 ^ n) _ _ (λ x l. ap (λ (t : Bool). cond t (f x) 0) (within_10 n u x h l)))
    (xor_below_cong (2 ^ n) _ _ (λ x l. ap (λ (t : Bool). cond t (f (2 ^ n + x)) 0) (within_11 n u x h l)))

-- the upper half of the normal form is that of the difference between the halves
abbrev pub difference : ℕ → (ℕ → ℕ) → ℕ → ℕ
difference n f x = bit_xor (f x) (f (2 ^ n + x))

pub coefficient_difference : (n : ℕ) (f : ℕ → ℕ) (u : ℕ) → u < 2 ^ n → coefficient (suc n) f (2 ^ n + u) ≡ coefficient n (difference n f) u
coefficient_difference n f u h = coefficient_high n f u h ∙ sym (coefficient_xor n f (λ x. f (2 ^ n + x)) u)

pub coefficient_constant : (n t u : ℕ) → u < 2 ^ n → (u ≡ 0 → ⊥) → coefficient n (λ x. t) u ≡ 0
coefficient_constant zero t u h ne = absurd (ne (below_one h))
coefficient_constant (suc n) t u h ne =
    half_cases n (λ u. (u ≡ 0 → ⊥) → coefficient (suc n) (λ x. t) u ≡ 0) (λ u l e. coefficient_low n (λ x. t) u l ∙ coefficient_constant n t u l e)
    (λ u l e. coefficient_high n (λ x. t) u l ∙ xor_self (coefficient n (λ x. t) u)) u h ne

pub coefficient_zero : (f : ℕ → ℕ) → coefficient 0 f 0 ≡ f 0
unfolding coefficient xor_below ones_within
coefficient_zero f = refl

-- ---- the rule is its own inverse
pub normal_form_involution : (n : ℕ) (f : ℕ → ℕ) (u : ℕ) → u < 2 ^ n → coefficient n (λ v. coefficient n f v) u ≡ f u
normal_form_involution zero f u h =
    ap (λ (y : ℕ). coefficient 0 (λ v. coefficient 0 f v) y) (below_one h) ∙ coefficient_zero (λ v. coefficient 0 f v) ∙ coefficient_zero f ∙ ap f (sym (below_one h))
normal_form_involution (suc n) f u h =
    half_cases n (λ u. coefficient (suc n) (λ v. coefficient (suc n) f v) u ≡ f u)
    (λ u l. coefficient_low n (λ v. coefficient (suc n) f v) u l ∙ lower u ∙ normal_form_involution n f u l)
    (λ u l.
    coefficient_high n (λ v. coefficient (suc n) f v) u l
    ∙ ap₂ bit_xor (lower u ∙ normal_form_involution n f u l)
    (coefficient_cong n _ _ u (λ v k. coefficient_high n f v k) ∙ coefficient_xor n (λ v. coefficient n f v) (λ v. coefficient n (λ x. f (2 ^ n + x)) v) u
    ∙ ap₂ bit_xor (normal_form_involution n f u l) (normal_form_involution n (λ x. f (2 ^ n + x)) u l))
    ∙ xor_cancel_left (f u) (f (2 ^ n + u)))
    u h
  where
    lower : (u : ℕ) → coefficient n (λ v. coefficient (suc n) f v) u ≡ coefficient n (λ v. coefficient n f v) u
    lower u = coefficient_cong n _ _ u (λ v k. coefficient_low n f v k)
