-- The changes from 1 on: their largest magnitude, its first place, and limits that leave out none. Assumes nothing.
use mathlib.Core.Path.{◌≡◌, sym, ap, ◌∙◌}
use mathlib.Core.Logic.{◌⊎◌, inl, inr}
use mathlib.Core.List.{List}
use Prim.Native.Nat.{ℕ, ◌+◌, ◌-◌, ◌^◌, ◌<◌, ◌≤◌}
use native.Mathlib.Nat.{le_trans}
use native.Mathlib.Omega.{arith}
use lib.Count.{ones-le}
use lib.IntN.{ℤ, pos, nat_abs}
use lib.ListN.{length, take, drop, length-drop}
use lib.Seq.{get_or-drop}
use Rattle.boolean.specs.Functions.{value_at, MaskWithin}
use Rattle.boolean.proofs.Largest.{largest_reached}
use Rattle.boolean.proofs.Lists.{upper_part}
use Rattle.walsh.specs.Magnitudes.{largest_magnitude, FirstOfMagnitude}
use Rattle.walsh.proofs.Magnitudes.{largest_bounds, place_inside, place_has}
use Rattle.avalanche.specs.Work.{LargestWithin, FirstWithin}

pub rest_magnitude : (values : List ℤ) → largest_magnitude (take (length values - 1) (drop 1 values)) ≡ largest_magnitude (drop 1 values)
rest_magnitude values = ap (λ (l : List ℤ). largest_magnitude l) (upper_part 1 values)

-- ---- the values from place 1 on, as they are handed over; none of at most 256 places has more than 8 ones
module _ (values : List ℤ) (few : length values ≤ 256) where
  abbrev rest : List ℤ
  rest = take (length values - 1) (drop 1 values)

  rest_length : length rest ≡ length values - 1
  rest_length = ap length (upper_part 1 values) ∙ length-drop 1 values

  rest_at : (k : ℕ) → nat_abs (value_at rest k) ≡ nat_abs (value_at values (1 + k))
  rest_at k = ap (λ (l : List ℤ). nat_abs (value_at l k)) (upper_part 1 values) ∙ ap nat_abs (get_or-drop 1 values k (pos 0))

  within_all : (s : ℕ) → 1 ≤ s → s < length values → MaskWithin 8 (length values) s
  within_all s low high = record { low = low; high = high; few = ones-le 8 s (omega arith) }

  -- a change is 1 and a place of those
  from_one : (s : ℕ) → 1 ≤ s → nat_abs (value_at rest (s - 1)) ≡ nat_abs (value_at values s)
  from_one s low = let whole : 1 + (s - 1) ≡ s = omega arith in rest_at (s - 1) ∙ ap (λ (k : ℕ). nat_abs (value_at values k)) whole

  pub largest_from : {largest : ℕ} → largest ≡ largest_magnitude rest → LargestWithin values 8 largest
  largest_from {largest} e = record {
    bounds = λ s w. omega (arith, from_one s w.low, largest_bounds rest e (s - 1));
    reached = λ p. go p (largest_reached (length rest) (λ k. nat_abs (value_at rest k)));
  }
    where
      go : 0 < largest → (largest_magnitude rest ≡ 0) ⊎ ((k : ℕ) × (k < length rest) × (nat_abs (value_at rest k) ≡ largest_magnitude rest))
          → (s : ℕ) × MaskWithin 8 (length values) s × (nat_abs (value_at values s) ≡ largest)
      go p (inl z) = absurd (omega (arith, e, z))
      go p (inr t) = (1 + t.0, within_all (1 + t.0) (omega arith) (omega (arith, t.1, rest_length)), sym (rest_at t.0) ∙ t.2 ∙ sym e)

  -- the first of them that has a magnitude, where one has it
  module _ {size place : ℕ} (t : (s : ℕ) × MaskWithin 8 (length values) s × (nat_abs (value_at values s) ≡ size)) (f : FirstOfMagnitude rest size place) where
    there : t.0 - 1 < length rest
    there = omega (arith, rest_length, t.1.low, t.1.high)

    has : nat_abs (value_at rest (t.0 - 1)) ≡ size
    has = from_one t.0 t.1.low ∙ t.2

    pub first_from : FirstWithin values 8 size (place + 1)
    first_from = record {
      within = within_all (place + 1) (omega arith) (omega (arith, rest_length, place_inside f (t.0 - 1) there has));
      has = sym (from_one (place + 1) (omega arith)) ∙ (let same : place + 1 - 1 ≡ place = omega arith in ap (λ (k : ℕ). nat_abs (value_at rest k)) same) ∙ place_has f (t.0 - 1) there has;
      first = λ s l w q. f.first (s - 1) (omega (arith, w.low)) (from_one s w.low ∙ q);
    }

-- ---- no change of n inputs has more than n ones: limits of n or more are the same
module _ (values : List ℤ) {n i j : ℕ} (long : length values ≡ 2 ^ n) (hi : n ≤ i) (hj : n ≤ j) where
  anywhere : {h s : ℕ} (k : ℕ) → n ≤ k → MaskWithin h (length values) s → MaskWithin k (length values) s
  anywhere {s = s} k le w = record { low = w.low; high = w.high; few = le_trans (ones-le n s (omega (arith, w.high))) le }

  pub largest_anywhere : {largest : ℕ} → LargestWithin values i largest → LargestWithin values j largest
  largest_anywhere d = record {
    bounds = λ s w. d.bounds s (anywhere i hi w);
    reached = λ p. let t = d.reached p in (t.0, anywhere j hj t.1, t.2);
  }

  pub first_anywhere : {size s : ℕ} → FirstWithin values i size s → FirstWithin values j size s
  first_anywhere d = record { within = anywhere j hj d.within; has = d.has; first = λ t l w. d.first t l (anywhere i hi w) }
