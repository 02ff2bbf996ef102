-- What a count of the numbers below k says of its test, and the loop that takes it, one number a turn.
use mathlib.Core.Path.{◌≡◌, refl, sym, ap, ◌∙◌}
use mathlib.Core.Bool.{Bool, true, false}
use Prim.Native.Nat.{ℕ, zero, suc, ◌+◌, ◌-◌, ◌<◌, ◌≤◌, zero-le}
use native.Mathlib.Nat.{le_refl, le-suc, le_trans, not-suc-le-zero}
use native.Mathlib.Numerals.{add-one}
use native.Mathlib.Decide.{ℕ_discrete}
use native.Mathlib.Omega.{arith}
use Rattle.boolean.specs.Sums.{count_below, one_if}
use Rattle.boolean.proofs.Counts.{count_le, count_split}

-- one number more
pub count_hit : (k : ℕ) (p : ℕ → Bool) → p k ≡ true → count_below (k + 1) p ≡ count_below k p + 1
unfolding count_below one_if
count_hit k p e = ap (λ (z : ℕ). count_below z p) (add-one k) ∙ ap (λ (b : Bool). count_below k p + one_if b) e

pub count_miss : (k : ℕ) (p : ℕ → Bool) → p k ≡ false → count_below (k + 1) p ≡ count_below k p
unfolding count_below one_if
count_miss k p e =
    ap (λ (z : ℕ). count_below z p) (add-one k) ∙ ap (λ (b : Bool). count_below k p + one_if b) e
    ∙ (let z : count_below k p + 0 ≡ count_below k p = omega arith in z)

pub count_none : (p : ℕ → Bool) → count_below 0 p ≡ 0
unfolding count_below
count_none p = refl

-- it grows with k
pub count_grows : (j k : ℕ) (p : ℕ → Bool) → j ≤ k → count_below j p ≤ count_below k p
count_grows j k p l =
    let whole : j + (k - j) ≡ k = omega arith in
    omega (arith, count_split j (k - j) p, ap (λ (z : ℕ). count_below z p) whole)

-- a number that passes is counted
pub count_some : (k : ℕ) (p : ℕ → Bool) (x : ℕ) → x < k → p x ≡ true → 0 < count_below k p
count_some k p x l e = omega (arith, count_hit x p e, count_grows (x + 1) k p (omega arith))

-- where none is counted none passes
pub count_zero : (k : ℕ) (p : ℕ → Bool) → count_below k p ≡ 0 → (x : ℕ) → x < k → p x ≡ false
count_zero k p e x l = pick (p x) refl
  where
    pick : (b : Bool) → p x ≡ b → p x ≡ false
    pick true q = absurd (omega (arith, count_some k p x l q))
    pick false q = q

pub count_no : (k : ℕ) (p : ℕ → Bool) → ((x : ℕ) → x < k → p x ≡ false) → count_below k p ≡ 0
unfolding count_below one_if
count_no zero p h = refl
count_no (suc k) p h =
    ap (λ (b : Bool). count_below k p + one_if b) (h k (le_refl (suc k)))
    ∙ (let z : count_below k p + 0 ≡ 0 = omega (arith, count_no k p (λ x l. h x (le_trans l (le-suc k)))) in z)

-- where one is counted there is a first that passes
pub count_first : (k : ℕ) (p : ℕ → Bool) → 0 < count_below k p → (x : ℕ) × (x < k) × (p x ≡ true) × (count_below x p ≡ 0)
unfolding count_below one_if
count_first zero p h = absurd (not-suc-le-zero h)
count_first (suc k) p h = pick (λ l. count_first k p l) (ℕ_discrete (count_below k p) 0) (p k) refl
  where
    pick : (0 < count_below k p → (x : ℕ) × (x < k) × (p x ≡ true) × (count_below x p ≡ 0)) → Dec (count_below k p ≡ 0) → (b : Bool) → p k ≡ b
        → (x : ℕ) × (x < suc k) × (p x ≡ true) × (count_below x p ≡ 0)
    pick rec (yes z) true e = (k, le_refl (suc k), e, z)
    pick rec (yes z) false e = absurd (omega (arith, ap (λ (b : Bool). count_below k p + one_if b) e))
    pick rec (no z) b e = let t = rec (omega arith) in (t.0, omega (arith, t.1), t.2, t.3)

-- ---- the loop that counts the numbers below n that pass the test
module _ (n : ℕ) (p : ℕ → Bool) where
  pub record Counted (k count : ℕ) : Type 0 where
    pub within : k ≤ n
    pub so_far : count ≡ count_below k p

  pub counted_none : Counted 0 0
  counted_none = record { within = zero-le; so_far = sym (count_none p) }

  module _ {k count : ℕ} (t : Counted k count) where
    pub counted_le : count ≤ k
    counted_le = omega (arith, t.so_far, count_le k p)

    pub counted_hit : k < n → p k ≡ true → Counted (k + 1) (count + 1)
    counted_hit l e = record { within = omega arith; so_far = omega (arith, t.so_far, count_hit k p e) }

    pub counted_miss : k < n → p k ≡ false → Counted (k + 1) count
    counted_miss l e = record { within = omega arith; so_far = omega (arith, t.so_far, count_miss k p e) }

    pub counted_all : n ≤ k → count ≡ count_below n p
    counted_all l = t.so_far ∙ ap (λ (z : ℕ). count_below z p) (let z : k ≡ n = omega (arith, t.within) in z)
