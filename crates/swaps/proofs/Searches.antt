-- The three loops of the search: what each has of the swaps from its index on, and what it hands to the next. Assumes nothing.
use mathlib.Core.Path.{◌≡◌, sym, ap}
use mathlib.Core.List.{List}
use Prim.Native.Nat.{ℕ, suc, ◌+◌, ◌-◌, ◌^◌, ◌<◌, ◌≤◌}
use native.Mathlib.Omega.{arith}
use Rattle.boolean.specs.Functions.{MaskWithin}
use Rattle.boolean.specs.Sums.{each, list_from, list_below, first_of}
use Rattle.swaps.specs.Swaps.{Swap, swap_at, swaps_from, swaps_by, swaps, raises}
use Rattle.swaps.specs.Work.{RaiseIn, NoneIn}
use Rattle.swaps.specs.declared.Raise.{Raise}
use Rattle.boolean.proofs.FirstOf.{Rest, rest_next, rest_found, rest_none}

-- a loop over the indices below the end, whose rule gives the swaps of each, and all of them are the list
pub record Loop (n m : ℕ) (rows : List ℕ) (f : ℕ → List Swap) (list : List Swap) (end hint i : ℕ) : Type 0 where
  pub hint_is : MaskWithin m (2 ^ m) hint
  pub rest : Rest (raises n m rows) f list end i

module _ {n m : ℕ} {rows : List ℕ} {f : ℕ → List Swap} {list : List Swap} {end hint i : ℕ} (t : Loop n m rows f list end hint i) where
  -- a swap was found among those of the index
  pub found_here : {raise : Raise} → i < end → RaiseIn n m rows (f i) raise → RaiseIn n m rows list raise
  found_here {raise} l p = record {
    first = sym (rest_found _ _ _ t.rest l (record { low = raise.low; high = raise.high }) p.first);
    figure_is = p.figure_is;
  }

  -- none was
  pub none_here : {by : ℕ} → i < end → NoneIn n m rows (f i) by → Loop n m rows f list end by (i + 1)
  none_here l p = record { hint_is = p.hint_is; rest = rest_next _ _ _ t.rest l p.none }

  -- nor of all
  pub none_found : end ≤ i → NoneIn n m rows list hint
  none_found h = record { none = sym (rest_none _ _ _ t.rest h); hint_is = t.hint_is }

-- ---- how they begin
module _ {n m : ℕ} {rows : List ℕ} {hint : ℕ} (k : MaskWithin m (2 ^ m) hint) where
  pub from_starts : (d low : ℕ) → Loop n m rows (swap_at rows d low) (swaps_from n rows d low) (2 ^ n) hint (low + 1)
  unfolding swaps_from
  from_starts d low =
      let next : low + 1 ≡ suc low = omega arith in
      record {
        hint_is = k;
        rest = record { same = ap (λ (j : ℕ). first_of (raises n m rows) (each (list_from j (2 ^ n - j) (λ h. h)) (swap_at rows d low))) next };
      }

  pub by_starts : (d : ℕ) → Loop n m rows (swaps_from n rows d) (swaps_by n rows d) (2 ^ n) hint 0
  unfolding swaps_by list_below
  by_starts d =
      let all : 2 ^ n - 0 ≡ 2 ^ n = omega arith in
      record {
        hint_is = k;
        rest = record { same = ap (λ (j : ℕ). first_of (raises n m rows) (each (list_from 0 j (λ h. h)) (swaps_from n rows d))) all };
      }

  pub search_starts : Loop n m rows (swaps_by n rows) (swaps n m rows) (m + 1) hint 1
  unfolding swaps
  search_starts =
      let all : m + 1 - 1 ≡ m = omega arith in
      record {
        hint_is = k;
        rest = record { same = ap (λ (j : ℕ). first_of (raises n m rows) (each (list_from 1 j (λ h. h)) (swaps_by n rows))) all };
      }
