-- The rows one after the other: what is known at each, and the first largest cell of those that were visited. Assumes nothing.
use mathlib.Core.Path.{◌≡◌, refl, sym, ap, ◌∙◌, subst}
use mathlib.Core.List.{List, Memᴰ}
use Prim.Native.Nat.{ℕ, suc, ◌+◌, ◌-◌, ◌*◌, ◌/◌, ◌^◌, ◌<◌, ◌≤◌}
use native.Mathlib.Nat.{le_refl, two-pow-succ}
use native.Mathlib.Omega.{arith}
use lib.Bits.{xor_lt}
use lib.ListN.{length, take}
use lib.Seq.{length-take-le}
use lib.Pow.{pow_pos, pow-lt}
use Rattle.boolean.specs.Sums.{list_from, each}
use Rattle.boolean.specs.Functions.{at}
use Rattle.boolean.specs.Selection.{Candidate, best, higher}
use Rattle.boolean.proofs.Lists.{each_from_one}
use Rattle.boolean.proofs.Selection.{best_append, first_largest_above}
use Rattle.refusals.specs.Table.{Box}
use Rattle.differential.specs.XorTable.{cells_of, cells, largest_cell}
use Rattle.differential.specs.Running.{Paired}
use Rattle.differential.specs.Work.{XorInside, differences_of, AfterRow}
use Rattle.differential.specs.Statements.{IsCell, cell_candidate}
use Rattle.differential.proofs.Cells.{in_cells}
use Rattle.sorting.proofs.Occurrences.{occurs}
use Rattle.differential.proofs.RowBest.{values_length, value_small, occurrences_cell, row_best}
use Rattle.differential.proofs.Pairs.{pairs_length}

-- XOR with an input difference leads from inputs to inputs
pub box_inside : {n m : ℕ} {rows : List ℕ} → Box n m rows → {a : ℕ} → a < 2 ^ n → XorInside (length rows) a
box_inside {n} b {a} l x k = omega (arith, b.size, xor_lt n x a (omega (arith, b.size)) l)

-- ---- the loop that takes the largest cell
abbrev cells_below : ℕ → ℕ → List ℕ → ℕ → List Candidate
cells_below n m rows a = each (list_from 1 (a - 1) (λ a. a)) (cells_of n m rows)

-- some cell has a count above 0: that of the first input's difference
pub some_cell : {n m : ℕ} {rows : List ℕ} → Box n m rows → (c : Candidate) × Memᴰ c (cells n m rows) × (0 < c.figure)
some_cell {n} {m} {rows} b =
    let inside : 0 < length (differences_of rows 1) = omega (arith, values_length b 1, pow_pos n) in
    let β = at (differences_of rows 1) 0 in
    let cell : IsCell n m 1 β = record { a_low = le_refl 1; a_high = pow-lt b.n_low; β_high = value_small b 1 0 inside } in
    (cell_candidate n rows 1 β, in_cells n m rows 1 β cell, rw (← occurrences_cell b 1 β) (occurs (differences_of rows 1) (length (differences_of rows 1)) 0 inside))

pub record Sweeping (n m : ℕ) (rows : List ℕ) (start found : Candidate) (pairs : List ℕ) (a : ℕ) : Type 0 where
  pub box : Box n m rows
  pub room : length rows ≡ 2 * length pairs
  pub a_low : 1 ≤ a
  pub a_high : a ≤ 2 ^ n
  pub last : 1 < a → Paired rows (a - 1) pairs
  pub so_far : found ≡ best higher start (cells_below n m rows a)

module _ {n m : ℕ} {rows : List ℕ} (b : Box n m rows) where
  -- there are half as many pairs as inputs
  two_halves : length rows ≡ 2 * 2 ^ (n - 1)
  two_halves =
      let e : n ≡ suc (n - 1) = omega (arith, b.n_low) in
      omega (arith, b.size, ap (λ (k : ℕ). 2 ^ k) e, two-pow-succ (n - 1))

  pub pairs_room : {a : ℕ} {pairs : List ℕ} → Paired rows a pairs → length rows ≡ 2 * length pairs
  pairs_room p = omega (arith, pairs_length b p, two_halves)

  pub half_room : (array : List ℕ) → length rows / 2 ≤ length array → length rows ≡ 2 * length (take (length rows / 2) array)
  half_room array h = omega (arith, two_halves, length-take-le (length rows / 2) array h)

  pub pairs_few : {a : ℕ} {pairs : List ℕ} → Paired rows a pairs → length pairs ≤ 128
  pairs_few p = omega (arith, pairs_room p, b.small)

  pub sweep_starts : {start : Candidate} {pairs : List ℕ} → length rows ≡ 2 * length pairs → Sweeping n m rows start start pairs 1
  unfolding each list_from best
  sweep_starts r = record { box = b; room = r; a_low = le_refl 1; a_high = pow_pos n; last = λ l. absurd (omega arith); so_far = refl }

module _ {n m : ℕ} {rows : List ℕ} {start found : Candidate} {pairs : List ℕ} {a : ℕ} (t : Sweeping n m rows start found pairs a) where
  pub sweep_next : {new : Candidate} {pairs' : List ℕ} → a < 2 ^ n → Paired rows a pairs' → AfterRow a pairs' found new → Sweeping n m rows start new pairs' (a + 1)
  sweep_next {pairs' = pairs'} l p s = record {
    box = t.box;
    room = pairs_room t.box p;
    a_low = omega arith;
    a_high = omega arith;
    last = λ k. subst (λ (a : ℕ). Paired rows a pairs') (let z : a ≡ a + 1 - 1 = omega arith in z) p;
    so_far =
        row_best t.box l p s ∙ ap (λ (b : Candidate). best higher b (cells_of n m rows a)) t.so_far
        ∙ sym (best_append higher start (cells_below n m rows a) (cells_of n m rows a))
        ∙ ap (best higher start) (sym (each_from_one a (cells_of n m rows) t.a_low));
  }

  module _ (h : 2 ^ n ≤ a) where
    at_end : a ≡ 2 ^ n
    at_end = omega (arith, t.a_high)

    pub sweep_ends : start.figure ≡ 0 → found ≡ largest_cell n m rows
    unfolding largest_cell cells
    sweep_ends z =
        let some = some_cell t.box in
        t.so_far ∙ ap (λ (k : ℕ). best higher start (cells_below n m rows k)) at_end
        ∙ first_largest_above start (cells n m rows) z some.0 some.1 some.2

    pub sweep_last : Paired rows (2 ^ n - 1) pairs
    sweep_last = subst (λ (k : ℕ). Paired rows (k - 1) pairs) at_end (t.last (omega (arith, pow-lt t.box.n_low)))
