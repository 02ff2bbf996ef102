-- The largest of the numbers that a rule gives below k: its bounds, and where it is reached.
use mathlib.Core.Path.{◌≡◌, refl, ap, ap₂}
use mathlib.Core.Logic.{◌⊎◌, inl, inr}
use Prim.Native.Nat.{ℕ, zero, suc, ◌+◌, ◌<◌, ◌≤◌, max, zero-le}
use native.Mathlib.Nat.{le_refl, le-suc, le_trans, not-suc-le-zero}
use native.Mathlib.Decide.{dec_le, ℕ_discrete}
use native.Mathlib.Numerals.{add-one}
use native.Mathlib.Omega.{arith}
use Rattle.boolean.specs.Sums.{largest_below}

pub largest_cong : (k : ℕ) (f g : ℕ → ℕ) → ((x : ℕ) → x < k → f x ≡ g x) → largest_below k f ≡ largest_below k g
unfolding largest_below
largest_cong zero f g h = refl
largest_cong (suc k) f g h = ap₂ max (largest_cong k f g (λ x l. h x (le_trans l (le-suc k)))) (h k (le_refl (suc k)))

-- A loop that keeps the largest so far: a number above it takes its place, and another leaves it.
module _ (k : ℕ) (f : ℕ → ℕ) {most : ℕ} (so_far : most ≡ largest_below k f) where
  largest_next : largest_below (k + 1) f ≡ max most (f k)
  unfolding largest_below
  largest_next = rw (add-one k, so_far) refl

  pub largest_takes : most < f k → f k ≡ largest_below (k + 1) f
  largest_takes above = omega (arith, largest_next, above)

  pub largest_keeps : f k ≤ most → most ≡ largest_below (k + 1) f
  largest_keeps below = omega (arith, largest_next, below)

-- what bounds each bounds the largest
pub largest_le : (k m : ℕ) (f : ℕ → ℕ) → ((x : ℕ) → x < k → f x ≤ m) → largest_below k f ≤ m
unfolding largest_below
largest_le zero m f h = zero-le
largest_le (suc k) m f h = omega (arith, largest_le k m f (λ x l. h x (le_trans l (le-suc k))), h k (le_refl (suc k)))

-- each is at most the largest
pub le_largest : (k : ℕ) (f : ℕ → ℕ) (x : ℕ) → x < k → f x ≤ largest_below k f
unfolding largest_below
le_largest zero f x h = absurd (not-suc-le-zero h)
le_largest (suc k) f x h = pick (λ l. le_largest k f x l) (ℕ_discrete x k)
  where
    pick : (x < k → f x ≤ largest_below k f) → Dec (x ≡ k) → f x ≤ max (largest_below k f) (f k)
    pick rec (yes e) = omega (arith, ap f e)
    pick rec (no e) = omega (arith, rec (omega arith))

-- and one of them is it, where it is not 0
pub largest_reached : (k : ℕ) (f : ℕ → ℕ) → (largest_below k f ≡ 0) ⊎ ((x : ℕ) × (x < k) × (f x ≡ largest_below k f))
unfolding largest_below
largest_reached zero f = inl refl
largest_reached (suc k) f = pick (dec_le (f k) (largest_below k f)) (largest_reached k f)
  where
    pick : Dec (f k ≤ largest_below k f) → (largest_below k f ≡ 0) ⊎ ((x : ℕ) × (x < k) × (f x ≡ largest_below k f))
        → (max (largest_below k f) (f k) ≡ 0) ⊎ ((x : ℕ) × (x < suc k) × (f x ≡ max (largest_below k f) (f k)))
    pick (yes l) (inl e) = inl (omega arith)
    pick (yes l) (inr t) = inr (t.0, le_trans t.1 (le-suc k), omega (arith, t.2))
    pick (no l) r = inr (k, le_refl (suc k), omega arith)
