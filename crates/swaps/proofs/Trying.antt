-- The loop over the components that stops at one with a pair of the count or less: the nearest pairs of those before c differ at more inputs,
-- and the least of their counts is kept, which is the nonlinearity in the end.
-- Assumes nothing.
use mathlib.Core.Path.{◌≡◌, sym, ◌∙◌}
use mathlib.Core.List.{List}
use Prim.Native.Nat.{ℕ, ◌+◌, ◌^◌, ◌<◌, ◌≤◌}
use native.Mathlib.Nat.{le_trans, le_of_eq}
use native.Mathlib.Omega.{arith}
use borrow.Author.Count.{below_more}
use lib.IntN.{ℤ}
use lib.ListN.{length}
use Rattle.std.proofs.Common.{min}
use Rattle.std.proofs.Math.Nat.{min-le_left, min-le_right, le-min}
use Rattle.boolean.specs.Selection.{first_least}
use Rattle.boolean.proofs.Components.{first_mask, whole_within}
use Rattle.linear.specs.Lent.{PairsSwept}
use Rattle.linear.specs.Nonlinearity.{pairs_of}
use Rattle.linear.proofs.Nearest.{least_le}
use Rattle.linear.proofs.Theorems.{component_least, component_reached}
use Rattle.swaps.specs.Swaps.{figure_of}

-- the fewest inputs at which a component differs from an affine function
abbrev nearest : ℕ → List ℕ → ℕ → ℕ
nearest n rows c = (first_least (pairs_of n rows c)).figure

pub record Reaching (n m : ℕ) (rows : List ℕ) (count : ℕ) (table : List ℕ) (values : List ℤ) (least c : ℕ) : Type 0 where
  pub arrays : PairsSwept n m rows table values
  pub above : (k : ℕ) → k < c → 1 ≤ k → count < nearest n rows k
  pub lowest : (k : ℕ) → k < c → 1 ≤ k → least ≤ nearest n rows k
  pub enough : figure_of n m rows ≤ least

-- arrays that are as long as before serve again
pub again : {n m : ℕ} {rows table table' : List ℕ} {values values' : List ℤ} → PairsSwept n m rows table values → length table' ≡ length table → length values' ≡ length values
    → PairsSwept n m rows table' values'
again s p q = record { box = s.box; table_size = p ∙ s.table_size; out_size = q ∙ s.out_size }

module _ {n m : ℕ} {rows : List ℕ} {count : ℕ} where
  -- no component differs at more inputs than there are
  pub reaching_starts : {table : List ℕ} {values : List ℤ} → PairsSwept n m rows table values → Reaching n m rows count table values (length rows) 1
  reaching_starts s = record {
    arrays = s;
    above = λ k l h. absurd (omega arith);
    lowest = λ k l h. absurd (omega arith);
    enough = le_trans (component_least n m rows m 1 (first_mask m m s.box.m_low s.box.m_low)) (le_trans (least_le n rows 1) (le_of_eq (sym s.box.size)));
  }

  module _ {table : List ℕ} {values : List ℤ} {least c : ℕ} (r : Reaching n m rows count table values least c) where
    -- one component more
    pub reaching_more : {table' : List ℕ} {values' : List ℤ} {found : ℕ} → PairsSwept n m rows table' values' → 1 ≤ c → c < 2 ^ m → found ≡ nearest n rows c → count < found
        → Reaching n m rows count table' values' (min least found) (c + 1)
    reaching_more {found = found} s low inside e h = record {
      arrays = s;
      above = below_more _ _ r.above (λ k. omega (arith, e));
      lowest = below_more _ _ (λ k i j. le_trans (min-le_left least found) (r.lowest k i j)) (λ k. le_trans (min-le_right least found) (le_of_eq e));
      enough = le-min r.enough (le_trans (component_least n m rows m c (whole_within m c low inside)) (le_of_eq (sym e)));
    }

    -- all of them
    pub reaching_ends : 2 ^ m ≤ c → (least ≡ figure_of n m rows) × (count < least)
    reaching_ends h =
        let t = component_reached n m rows m r.arrays.box.m_low r.arrays.box.m_low in
        let inside : t.0 < c = omega (arith, t.1.high) in
        (omega (arith, t.2, r.lowest t.0 inside t.1.low, r.enough), omega (arith, t.2, r.above t.0 inside t.1.low, r.enough))
