-- The largest magnitude of some values and its first place; that of two halves crossed. Assumes nothing.
use mathlib.Core.Path.{◌≡◌, refl, ap, subst}
use mathlib.Core.Logic.{◌⊎◌, inl, inr}
use mathlib.Core.List.{List}
use Prim.Native.Nat.{ℕ, zero, suc, ◌+◌, ◌-◌, ◌<◌, ◌≤◌}
use native.Mathlib.Omega.{arith}
use native.Mathlib.Decide.{dec_lt}
use lib.IntN.{ℤ, pos, negsuc, ◌+ℤ◌, ◌-ℤ◌, +ℤ_idr, nat_abs}
use lib.ListN.{length, get_or-eq_default}
use Rattle.boolean.specs.Functions.{value_at}
use Rattle.boolean.proofs.Largest.{largest_le, le_largest, largest_reached}
use Rattle.boolean.proofs.Sizes.{abs_add, abs_sub}
use Rattle.walsh.specs.Magnitudes.{largest_magnitude, FirstOfMagnitude}
use Rattle.walsh.specs.Work.{Crossed, largest_sum}

-- a magnitude that no value exceeds, and a place that has it
pub record Largest (values : List ℤ) (largest : ℕ) : Type 0 where
  pub bounds : (w : ℕ) → nat_abs (value_at values w) ≤ largest
  pub place : ℕ
  pub inside : place < length values
  pub reached : nat_abs (value_at values place) ≡ largest

module _ (values : List ℤ) {largest : ℕ} (e : largest ≡ largest_magnitude values) where
  -- past the end there are zeros
  pub largest_bounds : (w : ℕ) → nat_abs (value_at values w) ≤ largest
  largest_bounds w = go (dec_lt w (length values))
    where
      go : Dec (w < length values) → nat_abs (value_at values w) ≤ largest
      go (yes l) = omega (arith, e, le_largest (length values) (λ w. nat_abs (value_at values w)) w l)
      go (no l) = omega (arith, ap nat_abs (get_or-eq_default values (pos 0) {n = w} (omega arith)))

  -- where there is a value, one has it
  pub largest_of : 0 < length values → Largest values largest
  largest_of some = go (largest_reached (length values) (λ w. nat_abs (value_at values w)))
    where
      go : (largest_magnitude values ≡ 0) ⊎ ((w : ℕ) × (w < length values) × (nat_abs (value_at values w) ≡ largest_magnitude values)) → Largest values largest
      go (inl z) = record { bounds = largest_bounds; place = 0; inside = some; reached = omega (arith, e, z, largest_bounds 0) }
      go (inr t) = record { bounds = largest_bounds; place = t.0; inside = t.1; reached = omega (arith, e, t.2) }

-- where one has the magnitude, the first place is one of theirs
module _ {values : List ℤ} {size place : ℕ} (f : FirstOfMagnitude values size place) (w : ℕ) (l : w < length values) (has : nat_abs (value_at values w) ≡ size) where
  pub place_inside : place < length values
  place_inside = go (dec_lt place (length values))
    where
      go : Dec (place < length values) → place < length values
      go (yes h) = h
      go (no h) = absurd (f.first w (omega arith) has)

  pub place_has : nat_abs (value_at values place) ≡ size
  place_has = f.has place_inside

-- |a| + |b| is |a + b| where the signs are alike, and |a − b| where they are not
abs_either : (a b : ℤ) → (nat_abs a + nat_abs b ≡ nat_abs (a +ℤ b)) ⊎ (nat_abs a + nat_abs b ≡ nat_abs (a -ℤ b))
abs_either (pos a) (pos b) = inl refl
abs_either (pos a) (negsuc b) = inr (omega arith)
abs_either (negsuc a) (pos zero) = inl (omega (arith, ap nat_abs (+ℤ_idr (negsuc a))))
abs_either (negsuc a) (pos (suc b)) = inr (omega arith)
abs_either (negsuc a) (negsuc b) = inl (omega arith)

-- the largest magnitude of two halves crossed is the largest sum of two magnitudes, one of each half: |A| + |B| of document 001, section 6.2
module _ (h : ℕ) (old new : List ℤ) (long : length new ≡ h + h) (crossed : Crossed h old new) where
  abbrev size : ℕ → ℕ
  size w = nat_abs (value_at new w)

  abbrev both : ℕ → ℕ
  both k = nat_abs (value_at old k) + nat_abs (value_at old (h + k))

  sum_below : (k : ℕ) → k < h → size k ≤ largest_sum h old
  sum_below k lt = omega (arith, ap nat_abs (crossed.sums k lt), abs_add (value_at old k) (value_at old (h + k)), le_largest h both k lt)

  difference_below : (k : ℕ) → k < h → size (h + k) ≤ largest_sum h old
  difference_below k lt =
      omega (arith, ap nat_abs (crossed.differences k lt), abs_sub (value_at old k) (value_at old (h + k)), le_largest h both k lt)

  each_below : (w : ℕ) → w < length new → Dec (w < h) → size w ≤ largest_sum h old
  each_below w inside (yes lt) = sum_below w lt
  each_below w inside (no ge) =
      let e : h + (w - h) ≡ w = omega arith in
      subst (λ (j : ℕ). size j ≤ largest_sum h old) e (difference_below (w - h) (omega (arith, long)))

  both_below : (k : ℕ) → k < h → both k ≤ largest_magnitude new
  both_below k lt = go (abs_either (value_at old k) (value_at old (h + k)))
    where
      go : (both k ≡ nat_abs (value_at old k +ℤ value_at old (h + k))) ⊎ (both k ≡ nat_abs (value_at old k -ℤ value_at old (h + k))) → both k ≤ largest_magnitude new
      go (inl e) = omega (arith, e, ap nat_abs (crossed.sums k lt), le_largest (length new) size k (omega (arith, long)))
      go (inr e) = omega (arith, e, ap nat_abs (crossed.differences k lt), le_largest (length new) size (h + k) (omega (arith, long)))

  pub crossed_largest : largest_magnitude new ≡ largest_sum h old
  crossed_largest =
      omega (
        arith,
        largest_le (length new) (largest_sum h old) size (λ w inside. each_below w inside (dec_lt w h)),
        largest_le h (largest_magnitude new) both both_below,
      )
