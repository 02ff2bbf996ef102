-- The size of an integer, `nat_abs`: of sums, differences, and transforms.
use mathlib.Core.Path.{◌≡◌, refl, ap, ◌∙◌, sym}
use mathlib.Core.Logic.{◌⊎◌, inl, inr}
use mathlib.Core.Bool.{Bool, true, false, cond}
use Prim.Native.Nat.{ℕ, zero, suc, ◌+◌, ◌*◌, ◌-◌, ◌^◌, ◌<◌, ◌≤◌, zero-le}
use native.Mathlib.Nat.{le_refl, le_trans, le-suc, le_of_eq, suc-mul, mul-zero}
use native.Mathlib.Omega.{arith}
use native.Mathlib.Decide.{ℕ_discrete}
use lib.Dec.{ltb}
use lib.IntN.{ℤ, pos, negsuc, ◌+ℤ◌, ◌-ℤ◌, ◌*ℤ◌, neg_ℤ, nat_abs}
use Rattle.boolean.specs.Bits.{dot}
use Rattle.boolean.specs.Sums.{sum_below}
use Rattle.boolean.specs.Functions.{sign, transform}
use Rattle.boolean.proofs.Ints.{one-*ℤ, minus_one_*ℤ}

-- only 0 has the size 0
pub no_size : (z : ℤ) → nat_abs z ≡ 0 → z ≡ pos 0
no_size (pos k) e = ap pos e
no_size (negsuc k) e = absurd (omega arith)

pub abs_add : (a b : ℤ) → nat_abs (a +ℤ b) ≤ nat_abs a + nat_abs b
abs_add (pos a) (pos b) = le_refl (a + b)
abs_add (pos a) (negsuc b) = pick (ltb a (suc b))
  where
    pick : (c : Bool) → nat_abs (cond c (negsuc (suc b - suc a)) (pos (a - suc b))) ≤ a + suc b
    pick true = omega arith
    pick false = omega arith
abs_add (negsuc a) (pos b) = pick (ltb b (suc a))
  where
    pick : (c : Bool) → nat_abs (cond c (negsuc (suc a - suc b)) (pos (b - suc a))) ≤ suc a + b
    pick true = omega arith
    pick false = omega arith
abs_add (negsuc a) (negsuc b) = omega arith

pub abs_neg : (z : ℤ) → nat_abs (neg_ℤ z) ≡ nat_abs z
abs_neg (pos zero) = refl
abs_neg (pos (suc n)) = refl
abs_neg (negsuc n) = refl

pub abs_twice : (z : ℤ) → nat_abs z * 2 ≡ nat_abs (z +ℤ z)
abs_twice (pos k) = omega arith
abs_twice (negsuc k) = omega arith

-- an integer of size k is k or −k
pub abs_cases : (z : ℤ) (k : ℕ) → nat_abs z ≡ k → (z ≡ pos k) ⊎ (z ≡ neg_ℤ (pos k))
abs_cases (pos a) k e = inl (ap pos e)
abs_cases (negsuc a) k e = inr (ap (λ (i : ℕ). neg_ℤ (pos i)) e)

pub cases_abs : (z : ℤ) (k : ℕ) → (z ≡ pos k) ⊎ (z ≡ neg_ℤ (pos k)) → nat_abs z ≡ k
cases_abs z k (inl e) = ap nat_abs e
cases_abs z k (inr e) = ap nat_abs e ∙ abs_neg (pos k)

pub abs_sub : (a b : ℤ) → nat_abs (a -ℤ b) ≤ nat_abs a + nat_abs b
abs_sub a b = omega (arith, abs_add a (neg_ℤ b), abs_neg b)

-- a sign does not change the size
pub abs_sign : (b : ℕ) (z : ℤ) → nat_abs (sign b *ℤ z) ≡ nat_abs z
unfolding sign
abs_sign zero z = ap nat_abs (one-*ℤ z)
abs_sign (suc b) z = ap nat_abs (minus_one_*ℤ z) ∙ abs_neg z

pub sum_bound : (k m : ℕ) (f : ℕ → ℤ) → ((x : ℕ) → x < k → nat_abs (f x) ≤ m) → nat_abs (sum_below k f) ≤ k * m
unfolding sum_below
sum_bound zero m f h = omega arith
sum_bound (suc k) m f h = omega (arith, abs_add (sum_below k f) (f k), sum_bound k m f (λ x l. h x (le_trans l (le-suc k))), h k (le_refl (suc k)), suc-mul k m)

-- where at most one term is not 0, the sum is no larger than the terms
pub single_bound : (k M v : ℕ) (key : ℕ → ℕ) (F : ℕ → ℤ)
    → ((x : ℕ) → x < k → nat_abs (F x) ≤ M)
    → ((x : ℕ) → x < k → (key x ≡ v → ⊥) → nat_abs (F x) ≤ 0)
    → ((x y : ℕ) → x < y → y < k → key x ≡ key y → ⊥)
    → nat_abs (sum_below k F) ≤ M
unfolding sum_below
single_bound zero M v key F b z d = zero-le
single_bound (suc k) M v key F b z d =
    pick (single_bound k M v key F (λ x l. b x (le_trans l (le-suc k))) (λ x l. z x (le_trans l (le-suc k))) (λ x y l m. d x y l (le_trans m (le-suc k)))) (ℕ_discrete (key k) v)
  where
    pick : nat_abs (sum_below k F) ≤ M → Dec (key k ≡ v) → nat_abs (sum_below k F +ℤ F k) ≤ M
    pick rec (yes q) =
        let none = sum_bound k 0 F (λ x l. z x (le_trans l (le-suc k)) (λ p. d x k l (le_refl (suc k)) (p ∙ sym q))) in
        omega (arith, none, mul-zero k, abs_add (sum_below k F) (F k), b k (le_refl (suc k)))
    pick rec (no q) = omega (arith, rec, abs_add (sum_below k F) (F k), z k (le_refl (suc k)) q)

pub transform_bound : (n m : ℕ) (F : ℕ → ℤ) (w : ℕ) → ((x : ℕ) → x < 2 ^ n → nat_abs (F x) ≤ m) → nat_abs (transform n F w) ≤ 2 ^ n * m
unfolding transform
transform_bound n m F w h = sum_bound (2 ^ n) m _ (λ x l. le_trans (le_of_eq (abs_sign (dot w x) (F x))) (h x l))
