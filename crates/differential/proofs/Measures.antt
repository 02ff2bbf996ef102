-- A row that was measured: its largest count and the number of cells that have it, found from its pairs; and the loop over the rows. Assumes nothing.
use mathlib.Core.Path.{◌≡◌, sym, ap, ◌∙◌, subst}
use mathlib.Core.Logic.{◌⊎◌, inl, inr, ⊎_elim}
use mathlib.Core.List.{List, [], ◌∷◌}
use Prim.Native.Nat.{ℕ, ◌+◌, ◌-◌, ◌*◌, ◌/◌, ◌%◌, ◌^◌, ◌<◌, ◌≤◌}
use native.Mathlib.Nat.{le_refl, le_trans}
use native.Mathlib.Decide.{ℕ_discrete, dec_lt}
use native.Mathlib.Omega.{arith}
use borrow.Author.Tests.{eq-eqb, ne_eqb}
use lib.Dec.{eqb}
use lib.ListN.{length, set, length-set}
use lib.Pow.{pow_pos, pow-lt, pow_mono}
use lib.Seq.{get_or-set_same, get_or-set_other}
use Rattle.boolean.specs.Sums.{count_below}
use Rattle.boolean.specs.Functions.{at, occurrences}
use Rattle.boolean.specs.Selection.{Candidate}
use Rattle.boolean.proofs.Counts.{count_cong, count_le}
use Rattle.boolean.proofs.Selection.{first_largest_chooses}
use Rattle.refusals.specs.Table.{Box}
use Rattle.differential.specs.XorTable.{difference, cell, cells, largest_cell}
use Rattle.differential.specs.Running.{Paired, higher_of}
use Rattle.differential.specs.Work.{differences_of, reaching, RunningCells, IsRow, RowMeasured, RowsMeasured, measured_at, row_cells}
use Rattle.differential.specs.Statements.{IsCell}
use Rattle.differential.specs.declared.listing.RowLargest.{RowLargest}
use Rattle.sorting.proofs.Occurrences.{occurs, occurs_at}
use Rattle.differential.proofs.Rises.{higher_left, higher_right, higher_either}
use Rattle.differential.proofs.Pairs.{pairs_length, pair_small, cell_twice}
use Rattle.differential.proofs.Sweeps.{pairs_room, pairs_few, some_cell}
use Rattle.differential.proofs.RowBest.{value_small, occurrences_cell}
use Rattle.differential.proofs.CellRows.{row_none, row_one, row_counted}
use Rattle.differential.proofs.FirstCell.{largest_cell_most, largest_cell_reached}

-- the doubles of two numbers are equal where they are
double_eqb : (x y : ℕ) → eqb x y ≡ eqb (2 * x) (2 * y)
double_eqb x y = pick (ℕ_discrete x y)
  where
    pick : Dec (x ≡ y) → eqb x y ≡ eqb (2 * x) (2 * y)
    pick (yes e) = eq-eqb x y e ∙ sym (eq-eqb (2 * x) (2 * y) (omega arith))
    pick (no e) = ne_eqb x y e ∙ sym (ne_eqb (2 * x) (2 * y) (λ q. e (omega arith)))

-- ---- one row, from its pairs
module _ {n m : ℕ} {rows : List ℕ} (b : Box n m rows) {a : ℕ} (l : a < 2 ^ n) {pairs : List ℕ} (p : Paired rows a pairs) {value cells : ℕ}
    (t : RunningCells pairs (length pairs) value cells) where
  abbrev largest : ℕ
  largest = t.running.largest

  some_pair : 0 < length pairs
  some_pair = omega (arith, pairs_length b p, pow_pos (n - 1))

  row_positive : 1 ≤ largest
  row_positive = omega (arith, occurs pairs (length pairs) 0 some_pair, t.running.so_far.most (at pairs 0))

  pub row_measured : RowMeasured n m rows a value cells
  unfolding reaching
  row_measured = record {
    largest = largest;
    β = t.running.β;
    is = t.running.is;
    below =
        let s = occurs_at pairs (length pairs) t.running.β (omega (arith, row_positive, t.running.so_far.reached)) in
        omega (arith, pair_small b p s.0 s.1, s.2);
    most = λ v. omega (arith, cell_twice b p l v, t.running.so_far.most v);
    reached = omega (arith, cell_twice b p l t.running.β, t.running.so_far.reached);
    smallest = λ v k. omega (arith, cell_twice b p l v, t.running.so_far.smallest v k);
    few = omega (arith, t.few, pairs_few b p);
    counted =
        t.number (2 ^ m) (pair_small b p) some_pair
        ∙ count_cong (2 ^ m) _ _
        (λ v k. double_eqb (occurrences pairs (length pairs) v) largest ∙ ap (λ (k : ℕ). eqb k (2 * largest)) (sym (cell_twice b p l v)));
  }

-- ---- what the code reads of it
module _ {n m : ℕ} {rows : List ℕ} {a value number : ℕ} (b : Box n m rows) (t : RowMeasured n m rows a value number) where
  β_small : t.β < 4294967296
  β_small = omega (arith, t.below, pow_mono b.m_high)

  pub count_of : value / 4294967296 ≡ t.largest
  count_of = omega (arith, t.is, β_small)

  pub β_of : 4294967295 - value % 4294967296 ≡ t.β
  β_of = omega (arith, t.is, β_small)

  module _ {largest : ℕ} (e : 2 * largest ≡ (largest_cell n m rows).figure) where
    -- a row with a smaller count has none of the cells
    pub measured_none : value / 4294967296 < largest → row_cells n m rows a ≡ []
    measured_none h = row_none n m rows a (λ v q. omega (arith, t.most v, count_of))

    module _ (h : value / 4294967296 ≡ largest) where
      same : 2 * t.largest ≡ (largest_cell n m rows).figure
      same = omega (arith, count_of)

      pub measured_number : number ≡ length (row_cells n m rows a)
      measured_number =
          t.counted ∙ sym (row_counted n m rows a ∙ ap (λ (k : ℕ). count_below (2 ^ m) (λ v. eqb (cell n rows a v) k)) (sym same))

      pub measured_one : number ≡ 1 → row_cells n m rows a ≡ (a * 4294967296 + (4294967295 - value % 4294967296)) ∷ []
      measured_one q =
          row_one n m rows a t.β (sym measured_number ∙ q) t.below (t.reached ∙ same)
          ∙ ap (λ (β : ℕ). (a * 4294967296 + β) ∷ []) (sym β_of)

-- ---- the largest count of the box, as a number of pairs
-- a cell that is not empty has a β below 2^m
cell_inside : {n m : ℕ} {rows : List ℕ} → Box n m rows → (a v : ℕ) → 0 < cell n rows a v → v < 2 ^ m
cell_inside {rows = rows} b a v h =
    let values = differences_of rows a in
    let t = occurs_at values (length values) v (omega (arith, occurrences_cell b a v)) in
    omega (arith, value_small b a t.0 t.1, t.2)

figure_positive : {n m : ℕ} {rows : List ℕ} → Box n m rows → 0 < (largest_cell n m rows).figure
unfolding largest_cell
figure_positive {n} {m} {rows} b = let t = some_cell b in le_trans t.2 (first_largest_chooses.all (cells n m rows) t.0 t.1)

figure_small : {n m : ℕ} {rows : List ℕ} → Box n m rows → (largest_cell n m rows).figure ≤ 256
unfolding cell
figure_small {n} {m} {rows} b =
    let t = largest_cell_reached n m rows b.n_low in
    omega (arith, ap (λ (c : Candidate). c.figure) t.3, count_le (2 ^ n) (λ x. eqb (difference rows t.0 x) t.1), b.size, b.small)

module _ {n m : ℕ} {rows : List ℕ} (b : Box n m rows) (largest : ℕ) (e : 2 * largest ≡ (largest_cell n m rows).figure) where
  pub largest_positive : 1 ≤ largest
  largest_positive = omega (arith, figure_positive b)

  pub largest_small : largest ≤ 128
  largest_small = omega (arith, figure_small b)

  pub cells_at_most : (a : ℕ) → IsRow n a → (v : ℕ) → cell n rows a v ≤ 2 * largest
  cells_at_most a r v = pick (dec_lt 0 (cell n rows a v))
    where
      pick : Dec (0 < cell n rows a v) → cell n rows a v ≤ 2 * largest
      pick (yes h) = omega (arith, largest_cell_most n m rows a v (record { a_low = r.0; a_high = r.1; β_high = cell_inside b a v h }))
      pick (no h) = omega arith

  -- a row that has not this count has a smaller one, and none of the cells
  pub measured_other : {a value number : ℕ} → IsRow n a → RowMeasured n m rows a value number → (value / 4294967296 ≡ largest → ⊥) → row_cells n m rows a ≡ []
  measured_other {a} {value} r t h =
      let few : t.largest ≤ largest = omega (arith, t.reached, cells_at_most a r t.β) in
      measured_none b t e (omega (arith, count_of b t, few, h))

-- ---- the loop over the rows: those below a were measured
pub record Measuring (n m : ℕ) (rows : List ℕ) (measured : List RowLargest) (largest : ℕ) (pairs : List ℕ) (a : ℕ) : Type 0 where
  pub box : Box n m rows
  pub room : length rows ≡ 2 * length pairs
  pub size : length measured ≡ 256
  pub a_low : 1 ≤ a
  pub a_high : a ≤ 2 ^ n
  pub last : 1 < a → Paired rows (a - 1) pairs
  pub done : (k : ℕ) → 1 ≤ k → k < a → RowMeasured n m rows k (measured_at measured k).standing (measured_at measured k).cells
  pub bound : (k : ℕ) → 1 ≤ k → k < a → (v : ℕ) → cell n rows k v ≤ 2 * largest
  pub some : 0 < largest → (k : ℕ) × (β : ℕ) × IsCell n m k β × (cell n rows k β ≡ 2 * largest)

pub measuring_none : {n m : ℕ} {rows : List ℕ} {measured : List RowLargest} {pairs : List ℕ} → Box n m rows → length rows ≡ 2 * length pairs
    → length measured ≡ 256 → Measuring n m rows measured 0 pairs 1
measuring_none {n} b r s = record {
  box = b;
  room = r;
  size = s;
  a_low = le_refl 1;
  a_high = pow_pos n;
  last = λ l. absurd (omega arith);
  done = λ k h l. absurd (omega arith);
  bound = λ k h l. absurd (omega arith);
  some = λ l. absurd (omega arith);
}

module _ {n m : ℕ} {rows : List ℕ} {measured : List RowLargest} {largest : ℕ} {pairs : List ℕ} {a : ℕ} (t : Measuring n m rows measured largest pairs a) where
  module _ (l : a < 2 ^ n) {pairs' : List ℕ} (p : Paired rows a pairs') {found : RowLargest}
      (run : RunningCells pairs' (length pairs') found.standing found.cells) {new : ℕ} (g : new ≡ higher_of largest (found.standing / 4294967296)) where
    abbrev value : ℕ
    value = found.standing

    abbrev after : List RowLargest
    after = set measured a found

    abbrev row : RowMeasured n m rows a value found.cells
    row = row_measured t.box l p run

    inside : a < 256
    inside = omega (arith, t.box.size, t.box.small)

    at_row : (k : ℕ) → 1 ≤ k → k < a + 1 → Dec (k ≡ a) → RowMeasured n m rows k (measured_at after k).standing (measured_at after k).cells
    at_row k h i (yes e) =
        subst (λ (z : ℕ). RowMeasured n m rows z (measured_at after z).standing (measured_at after z).cells) (sym e)
        (subst (λ (r : RowLargest). RowMeasured n m rows a r.standing r.cells) (sym (get_or-set_same measured a found _ (omega (arith, inside, t.size)))) row)
    at_row k h i (no e) =
        subst (λ (r : RowLargest). RowMeasured n m rows k r.standing r.cells) (sym (get_or-set_other measured a k found _ e)) (t.done k h (omega arith))

    bounded : (k : ℕ) → 1 ≤ k → k < a + 1 → Dec (k ≡ a) → (v : ℕ) → cell n rows k v ≤ 2 * new
    bounded k h i (yes e) v = omega (arith, ap (λ (z : ℕ). cell n rows z v) e, row.most v, count_of t.box row, g, higher_right largest (value / 4294967296))
    bounded k h i (no e) v = omega (arith, t.bound k h (omega arith) v, g, higher_left largest (value / 4294967296))

    found_at : 0 < new → (new ≡ largest) ⊎ (new ≡ value / 4294967296) → (k : ℕ) × (β : ℕ) × IsCell n m k β × (cell n rows k β ≡ 2 * new)
    found_at h (inl e) = let s = t.some (omega arith) in (s.0, s.1, s.2, omega (arith, s.3))
    found_at h (inr e) = (
      a,
      row.β,
      record { a_low = t.a_low; a_high = l; β_high = row.below },
      omega (arith, row.reached, count_of t.box row),
    )

    pub measuring_next : Measuring n m rows after new pairs' (a + 1)
    measuring_next = record {
      box = t.box;
      room = pairs_room t.box p;
      size = length-set measured a found ∙ t.size;
      a_low = omega arith;
      a_high = omega arith;
      last = λ k. subst (λ (a : ℕ). Paired rows a pairs') (let z : a ≡ a + 1 - 1 = omega arith in z) p;
      done = λ k h i. at_row k h i (ℕ_discrete k a);
      bound = λ k h i. bounded k h i (ℕ_discrete k a);
      some = λ h. found_at h (⊎_elim (λ e. inl (g ∙ e)) (λ e. inr (g ∙ e)) (higher_either largest (value / 4294967296)));
    }

  module _ (h : 2 ^ n ≤ a) where
    at_end : a ≡ 2 ^ n
    at_end = omega (arith, t.a_high)

    pub measuring_all : RowsMeasured n m rows measured
    measuring_all k r = t.done k r.0 (omega (arith, r.1))

    pub measuring_largest : 2 * largest ≡ (largest_cell n m rows).figure
    measuring_largest =
        let w = largest_cell_reached n m rows t.box.n_low in
        let figure : (largest_cell n m rows).figure ≡ cell n rows w.0 w.1 = ap (λ (c : Candidate). c.figure) w.3 in
        let over = t.bound w.0 w.2.a_low (omega (arith, w.2.a_high)) w.1 in
        let s = t.some (omega (arith, figure, over, figure_positive t.box)) in
        omega (arith, figure, over, s.3, largest_cell_most n m rows s.0 s.1 s.2)

    pub measuring_last : Paired rows (2 ^ n - 1) pairs
    measuring_last = subst (λ (k : ℕ). Paired rows (k - 1) pairs) at_end (t.last (omega (arith, pow-lt t.box.n_low)))
