-- One row: what its differences count, and that the largest count among its pairs, with the smallest β, is its first largest cell.
-- Assumes nothing.
use mathlib.Core.Path.{◌≡◌, sym, ap, ◌∙◌}
use mathlib.Core.Bool.{true}
use mathlib.Core.Logic.{inl, inr}
use mathlib.Core.List.{List, [], ◌∷◌, Memᴰ}
use Prim.Native.Nat.{ℕ, ◌*◌, ◌^◌, ◌<◌, ◌≤◌}
use native.Mathlib.Omega.{arith}
use borrow.Author.Tests.{lt-ltb, le-ltb}
use lib.Bits.{bit_xor, xor_lt}
use lib.Dec.{eqb}
use lib.ListN.{length}
use Rattle.boolean.specs.Sums.{count_below}
use Rattle.boolean.specs.Functions.{at, occurrences}
use Rattle.boolean.specs.Selection.{Candidate, best, higher}
use Rattle.boolean.proofs.Counts.{count_cong}
use Rattle.boolean.proofs.Lists.{length_list_below, get_or_list_below}
use Rattle.boolean.proofs.Selection.{best_stays, best_is, ranked_first}
use Rattle.refusals.specs.Table.{Box}
use Rattle.differential.specs.XorTable.{difference, cell, cells_of}
use Rattle.differential.specs.Running.{Paired}
use Rattle.differential.specs.Work.{differences_of, RowAbove, AfterRow}
use Rattle.differential.specs.Statements.{rank, cell_candidate}
use Rattle.sorting.proofs.Occurrences.{occurs_at}
use Rattle.differential.proofs.Pairs.{pair_small, cell_twice}
use Rattle.differential.proofs.Cells.{in_cells_of, mem_cells_of, ascending_cells_of}

-- ---- the row of a
module _ {n m : ℕ} {rows : List ℕ} (b : Box n m rows) (a : ℕ) where
  abbrev values : List ℕ
  values = differences_of rows a

  pub values_length : length values ≡ 2 ^ n
  unfolding differences_of
  values_length = length_list_below (length rows) (difference rows a) ∙ b.size

  pub value_is : (x : ℕ) → x < 2 ^ n → at values x ≡ difference rows a x
  unfolding differences_of
  value_is x l = get_or_list_below (length rows) (difference rows a) x 0 (omega (arith, b.size))

  pub occurrences_cell : (β : ℕ) → occurrences values (length values) β ≡ cell n rows a β
  unfolding occurrences cell
  occurrences_cell β =
      ap (λ (k : ℕ). count_below k (λ x. eqb (at values x) β)) values_length
      ∙ count_cong (2 ^ n) _ _ (λ x l. ap (λ (v : ℕ). eqb v β) (value_is x l))

  pub value_small : (x : ℕ) → x < length values → at values x < 2 ^ m
  unfolding difference
  value_small x l = rw (value_is x (omega (arith, values_length))) (xor_lt m (at rows x) (at rows (bit_xor x a)) (b.below x) (b.below (bit_xor x a)))

-- ---- the first largest cell of the row, from the differences of its pairs
module _ {n m : ℕ} {rows : List ℕ} (b : Box n m rows) {a : ℕ} (l : a < 2 ^ n) {pairs : List ℕ} (p : Paired rows a pairs) where
  -- what bounds twice each count bounds every cell of the row
  cells_at_most : (k : ℕ) → ((β : ℕ) → 2 * occurrences pairs (length pairs) β ≤ k) → (c : Candidate) → Memᴰ c (cells_of n m rows a) → c.figure ≤ k
  cells_at_most k h c i =
      let s = mem_cells_of n m rows a c i in
      omega (arith, h s.0, cell_twice b p l s.0, ap (λ (c : Candidate). c.figure) s.2)

  module _ {found r : Candidate} (t : RowAbove a pairs found r) where
    largest_is : r ≡ cell_candidate n rows a t.β
    largest_is =
        t.is ∙ ap (λ (k : ℕ). record { figure = k; witness = a ∷ t.β ∷ [] }) (ap (λ (k : ℕ). 2 * k) (sym t.of_row.reached) ∙ sym (cell_twice b p l t.β))

    largest_member : Memᴰ r (cells_of n m rows a)
    largest_member =
        let s = occurs_at pairs (length pairs) t.β (omega (arith, t.above, t.of_row.reached)) in
        rw largest_is (in_cells_of n m rows a t.β (omega (arith, pair_small b p s.0 s.1, s.2)))

    largest_most : (c : Candidate) → Memᴰ c (cells_of n m rows a) → c.figure ≤ r.figure
    largest_most c i = rw t.is (cells_at_most (2 * t.largest) (λ β. omega (arith, t.of_row.most β)) c i)

    largest_first : (c : Candidate) → Memᴰ c (cells_of n m rows a) → rank (2 ^ m) c < rank (2 ^ m) r → c.figure < r.figure
    largest_first c i h =
        let s = mem_cells_of n m rows a c i in
        let earlier : s.0 < t.β = omega (arith, ap (rank (2 ^ m)) s.2, ap (rank (2 ^ m)) t.is) in
        omega (arith, t.of_row.smallest s.0 earlier, cell_twice b p l s.0, ap (λ (c : Candidate). c.figure) s.2, ap (λ (c : Candidate). c.figure) t.is)

  -- so the step that the code does is the selection over the whole row
  pub row_best : {found r : Candidate} → AfterRow a pairs found r → r ≡ best higher found (cells_of n m rows a)
  row_best {found} {r} (inl h) =
      h.0 ∙ sym (best_stays higher found (cells_of n m rows a) (λ c i. le-ltb found.figure c.figure (cells_at_most found.figure h.1 c i)))
  row_best {found} {r} (inr t) =
      let above : found.figure < r.figure = omega (arith, t.above, ap (λ (c : Candidate). c.figure) t.is) in
      sym (best_is higher found r (lt-ltb found.figure r.figure above)
      (ranked_first (rank (2 ^ m)) (λ r c. higher r c ≡ true) r (cells_of n m rows a) (ascending_cells_of n m rows (2 ^ m) a) (largest_member t)
      (λ c i h. lt-ltb c.figure r.figure (largest_first t c i h)))
      (λ c i. le-ltb r.figure c.figure (largest_most t c i)))
