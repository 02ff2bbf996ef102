-- Runs of equal values in a list in order: where no value stands more often, those that stand so often are the starts of the runs of that length.
-- So the cells of the runs are the cells of the row. Assumes nothing.
use mathlib.Core.Path.{◌≡◌, refl, sym, ap, ◌∙◌}
use mathlib.Core.Bool.{Bool, true, false}
use mathlib.Core.List.Memᴰ
use mathlib.Core.List.{List, [], ◌∷◌, ◌++◌, Memᴰ}
use Prim.Native.Nat.{ℕ, zero, suc, ◌+◌, ◌-◌, ◌*◌, ◌^◌, ◌<◌, ◌≤◌, zero-le}
use native.Mathlib.Decide.{ℕ_discrete}
use native.Mathlib.Omega.{arith}
use borrow.Author.Tests.{eq-eqb, ne_eqb, eqb-true}
use lib.Dec.{eqb}
use lib.ListN.{length}
use lib.Seq.{sets}
use Rattle.boolean.specs.Sums.{count_below, list_from, list_below, each}
use Rattle.boolean.specs.Functions.{at, occurrences}
use Rattle.boolean.specs.Selection.{Ascending}
use Rattle.boolean.proofs.Counts.{count_le, count_split}
use Rattle.boolean.proofs.Counted.{count_grows, count_no}
use Rattle.boolean.proofs.Lists.{mem_each, in_each, mem_list_below, in_list_below, each_from_zero, each_grows, ascending_list_below, ascending_each}
use Rattle.boolean.proofs.Members.{if_kept, mem_if, in_if}
use Rattle.boolean.proofs.Stored.{Stored, stored_none, stored_room, stored_more}
use Rattle.refusals.specs.Table.{Box}
use Rattle.differential.specs.XorTable.{cell, largest_cell}
use Rattle.differential.specs.Running.{Paired}
use Rattle.differential.specs.Work.{IsRow, row_cells, run_at, runs}
use Rattle.sorting.specs.Work.{Sorted}
use Rattle.sorting.proofs.Occurrences.{occurs_more, occurs_at}
use Rattle.differential.proofs.Pairs.{cell_twice, pair_small}
use Rattle.differential.proofs.CellRows.{ascending_same, mem_row, in_row, ascending_row}

-- ---- one run
module _ (largest a : ℕ) (values : List ℕ) (y : ℕ) where
  pub run_listed : at values y ≡ at values (y + (largest - 1)) → run_at largest a values y ≡ (a * 4294967296 + at values y) ∷ []
  unfolding run_at
  run_listed e = rw (run_at, eq-eqb (at values y) (at values (y + (largest - 1))) e)

  pub run_unlisted : (at values y ≡ at values (y + (largest - 1)) → ⊥) → run_at largest a values y ≡ []
  unfolding run_at
  run_unlisted e = rw (run_at, ne_eqb (at values y) (at values (y + (largest - 1))) e)

-- ---- all runs, one after the other
module _ (largest a : ℕ) (values : List ℕ) where
  abbrev pub runs_to : ℕ → List ℕ
  runs_to y = each (list_below y (λ y. y)) (λ y. run_at largest a values y)

  runs_next : (y : ℕ) → runs_to (y + 1) ≡ runs_to y ++ run_at largest a values y
  runs_next y = each_from_zero y (λ y. run_at largest a values y)

  runs_room : (y room start : ℕ) → y + largest ≤ length values → start + length (runs largest a values) ≤ room
      → start + length (runs_to y ++ run_at largest a values y) ≤ room
  unfolding runs list_below
  runs_room y room start l h =
      omega (
        arith,
        ap length (runs_next y),
        each_grows 0 (y + 1) (length values + 1 - largest) (λ y. run_at largest a values y) (let z : y + 1 ≤ length values + 1 - largest = omega arith in z),
      )

-- the loop that writes them
pub record RunsStored (largest a : ℕ) (values : List ℕ) (start : ℕ) (old : List ℕ) (next : ℕ) (list : List ℕ) (y : ℕ) : Type 0 where
  pub within : y ≤ length values + 1 - largest
  pub stored : Stored start old (runs_to largest a values y) next list

module _ {largest a : ℕ} {values : List ℕ} {start : ℕ} {old : List ℕ} where
  pub runs_none : RunsStored largest a values start old start old 0
  unfolding each list_below list_from
  runs_none = record { within = zero-le; stored = stored_none start old }

  module _ {next : ℕ} {list : List ℕ} {y : ℕ} (t : RunsStored largest a values start old next list y) where
    pub run_room : y + largest ≤ length values → start + length (runs largest a values) ≤ length old → next + length (run_at largest a values y) ≤ length list
    run_room l h = stored_room t.stored (run_at largest a values y) (runs_room largest a values y (length old) start l h)

    pub run_next : {after : ℕ} {list' : List ℕ} → y + largest ≤ length values → after ≡ next + length (run_at largest a values y)
        → list' ≡ sets list next (run_at largest a values y) → RunsStored largest a values start old after list' (y + 1)
    run_next l p q = record {
      within = omega arith;
      stored = rw (runs_next largest a values y) (stored_more t.stored (run_at largest a values y) p q);
    }

    pub runs_all : 1 ≤ largest → length values < y + largest → (next ≡ start + length (runs largest a values)) × (list ≡ sets old start (runs largest a values))
    unfolding runs
    runs_all k l =
        let end : y ≡ length values + 1 - largest = omega (arith, t.within) in (
          t.stored.place ∙ ap (λ (z : ℕ). start + length (runs_to largest a values z)) end,
          t.stored.stored ∙ ap (λ (z : ℕ). sets old start (runs_to largest a values z)) end,
        )

-- ---- counts along a list
module _ (values : List ℕ) where
  few_more : (y d v : ℕ) → occurrences values (y + d) v ≤ occurrences values y v + d
  unfolding occurrences
  few_more y d v = omega (arith, count_split y d (λ x. eqb (at values x) v), count_le d (λ x. eqb (at values (y + x)) v))

  occurs_grows : (y z v : ℕ) → y ≤ z → occurrences values y v ≤ occurrences values z v
  unfolding occurrences
  occurs_grows y z v l = count_grows y z (λ x. eqb (at values x) v) l

  -- where none after the first y is v, only these count
  later_none : (y v : ℕ) → y ≤ length values → ((j : ℕ) → y ≤ j → j < length values → at values j ≡ v → ⊥) → occurrences values (length values) v ≡ occurrences values y v
  unfolding occurrences
  later_none y v l h =
      let whole : y + (length values - y) ≡ length values = omega arith in
      omega (
        arith,
        ap (λ (k : ℕ). count_below k (λ x. eqb (at values x) v)) whole,
        count_split y (length values - y) (λ x. eqb (at values x) v),
        count_no (length values - y) (λ x. eqb (at values (y + x)) v) (λ x m. ne_eqb (at values (y + x)) v (h (y + x) (omega arith) (omega arith))),
      )

-- one entry or none is in order
ascending_if : (b : Bool) (x : ℕ) → Ascending (λ v. v) (if_kept b x)
ascending_if true x = (λ d m. absurd (Memᴰ.not-nil m), tt)
ascending_if false x = tt

-- ---- values in order
module _ (values : List ℕ) (ascending : (i j : ℕ) → i < j → j < length values → at values i ≤ at values j) where
  weakly : (i j : ℕ) → i ≤ j → j < length values → at values i ≤ at values j
  weakly i j l h = pick (ℕ_discrete i j)
    where
      pick : Dec (i ≡ j) → at values i ≤ at values j
      pick (yes e) = omega (arith, ap (at values) e)
      pick (no e) = ascending i j (omega arith) h

  -- from y on, d values that are the same are counted
  run_counted : (y d : ℕ) → y + d < length values → at values y ≡ at values (y + d) → suc d ≤ occurrences values (y + d + 1) (at values y)
  run_counted y zero l e =
      omega (
        arith,
        occurs_more values y (at values y) refl,
        ap (λ (k : ℕ). occurrences values k (at values y)) (let z : y + 0 + 1 ≡ y + 1 = omega arith in z),
      )
  run_counted y (suc d) l e =
      let before : at values y ≡ at values (y + d) = omega (arith, weakly y (y + d) (omega arith) (omega arith), weakly (y + d) (y + suc d) (omega arith) l) in
      let here = occurs_more values (y + suc d) (at values y) (sym e) in
      omega (
        arith,
        here,
        run_counted y d (omega arith) before,
        ap (λ (k : ℕ). occurrences values k (at values y)) (let z : y + suc d ≡ y + d + 1 = omega arith in z),
      )

  -- a value that stands so often starts a run
  run_starts : (v d : ℕ) → occurrences values (length values) v ≡ suc d → (y : ℕ) × (y + d < length values) × (at values y ≡ v) × (at values (y + d) ≡ v)
  run_starts v d e =
      let t = occurs_at values (length values) v (omega arith) in
      let y = t.0 in
      let enough : y + d < length values = omega (arith, t.1, t.3, few_more values y (length values - y) v, ap (λ (k : ℕ). occurrences values k v) (let l = t.1 in let z : y + (length values - y) ≡ length values = omega arith in z)) in
      (y, enough, t.2, same y t.2 t.3 enough (ℕ_discrete (at values (y + d)) v))
    where
      same : (y : ℕ) → at values y ≡ v → occurrences values y v ≡ 0 → y + d < length values → Dec (at values (y + d) ≡ v) → at values (y + d) ≡ v
      same y q z l (yes w) = w
      same y q z l (no w) =
          let above : v < at values (y + d) = omega (arith, weakly y (y + d) (omega arith) l) in
          absurd (omega (arith, few_more values y d v, later_none values (y + d) v (omega arith) (λ j k h w. omega (arith, weakly (y + d) j k h))))

  module _ (largest : ℕ) (positive : 1 ≤ largest) (most : (v : ℕ) → occurrences values (length values) v ≤ largest) (a : ℕ) where
    -- a run makes its value one of those that stand most often, and no value has two runs
    run_full : (y : ℕ) → y + largest ≤ length values → at values y ≡ at values (y + (largest - 1)) → occurrences values (length values) (at values y) ≡ largest
    run_full y l e =
        omega (
          arith,
          most (at values y),
          run_counted y (largest - 1) (omega arith) e,
          occurs_grows values (y + (largest - 1) + 1) (length values) (at values y) (omega arith),
        )

    run_apart : (y z : ℕ) → y < z → z + largest ≤ length values → at values z ≡ at values (z + (largest - 1)) → at values y < at values z
    run_apart y z l h e = pick (ℕ_discrete (at values y) (at values z))
      where
        pick : Dec (at values y ≡ at values z) → at values y < at values z
        pick (no q) = omega (arith, weakly y z (omega arith) (omega arith))
        pick (yes q) =
            let d = z - y + (largest - 1) in
            let last : y + d ≡ z + (largest - 1) = omega arith in
            let long = run_counted y d (omega arith) (q ∙ e ∙ ap (at values) (sym last)) in
            absurd (omega (arith, long, most (at values y), occurs_grows values (y + d + 1) (length values) (at values y) (omega arith)))

    mem_run : (v y : ℕ) → Memᴰ v (run_at largest a values y) → (at values y ≡ at values (y + (largest - 1))) × (v ≡ a * 4294967296 + at values y)
    unfolding run_at
    mem_run v y k = let u = mem_if (eqb (at values y) (at values (y + (largest - 1)))) (a * 4294967296 + at values y) v k in (eqb-true _ _ u.0, u.1)

    inside : (y : ℕ) → Memᴰ y (list_below (length values + 1 - largest) (λ y. y)) → y + largest ≤ length values
    inside y k = let s = mem_list_below (length values + 1 - largest) (λ y. y) y k in omega (arith, s.1, s.2)

    mem_runs : (v : ℕ) → Memᴰ v (runs largest a values) → (y : ℕ) × (y < length values) × (occurrences values (length values) (at values y) ≡ largest) × (v ≡ a * 4294967296 + at values y)
    unfolding runs
    mem_runs v k =
        let t = mem_each (list_below (length values + 1 - largest) (λ y. y)) (λ y. run_at largest a values y) v k in
        let l = inside t.0 t.1 in
        let u = mem_run v t.0 t.2 in
        (t.0, omega arith, run_full t.0 l u.0, u.1)

    in_runs : (v : ℕ) → occurrences values (length values) v ≡ largest → Memᴰ (a * 4294967296 + v) (runs largest a values)
    unfolding runs run_at
    in_runs v e =
        let t = run_starts v (largest - 1) (omega arith) in
        let y = t.0 in
        in_each (list_below (length values + 1 - largest) (λ y. y)) (λ y. run_at largest a values y) y _
        (in_list_below (length values + 1 - largest) (λ y. y) y (let l = t.1 in omega arith))
        (Memᴰ.cast (ap (λ (w : ℕ). a * 4294967296 + w) (sym t.2))
        (in_if (eqb (at values y) (at values (y + (largest - 1)))) (a * 4294967296 + at values y) (eq-eqb _ _ (t.2 ∙ sym t.3))))

    ascending_runs : Ascending (λ v. v) (runs largest a values)
    unfolding runs run_at
    ascending_runs =
        ascending_each (λ y. y) (λ v. v) (list_below (length values + 1 - largest) (λ y. y)) (λ y. run_at largest a values y)
        (ascending_list_below (λ y. y) (length values + 1 - largest) (λ y. y) (λ i j l h. l))
        (λ y k. ascending_if (eqb (at values y) (at values (y + (largest - 1)))) (a * 4294967296 + at values y))
        (λ y z i j l v w p q.
        let s = mem_run v y p in
        let t = mem_run w z q in
        omega (arith, s.1, t.1, run_apart y z l (inside z j) t.0))

-- ---- the pairs of a row, in order
module _ {n m : ℕ} {rows : List ℕ} (b : Box n m rows) {a : ℕ} (r : IsRow n a) {pairs values : List ℕ} (p : Paired rows a pairs) (s : Sorted pairs values)
    {largest : ℕ} (positive : 1 ≤ largest) (e : 2 * largest ≡ (largest_cell n m rows).figure) (most : (v : ℕ) → cell n rows a v ≤ 2 * largest) where
  cell_is : (v : ℕ) → cell n rows a v ≡ 2 * occurrences values (length values) v
  cell_is v = cell_twice b p r.1 v ∙ ap (λ (k : ℕ). 2 * k) (sym (s.reordered.same v))

  at_most : (v : ℕ) → occurrences values (length values) v ≤ largest
  at_most v = omega (arith, cell_is v, most v)

  -- each value is one of the pairs', so it is below 2^m
  small : (v : ℕ) → occurrences values (length values) v ≡ largest → v < 2 ^ m
  small v q =
      let t = occurs_at pairs (length pairs) v (omega (arith, s.reordered.same v)) in
      omega (arith, pair_small b p t.0 t.1, t.2)

  pub runs_are_row : runs largest a values ≡ row_cells n m rows a
  runs_are_row =
      ascending_same (runs largest a values) (row_cells n m rows a) (ascending_runs values s.ascending largest positive at_most a) (ascending_row n m rows a)
      (λ v. (λ k. forth v (mem_runs values s.ascending largest positive at_most a v k), λ k. back v (mem_row n m rows a v k)))
    where
      forth : (v : ℕ) → (y : ℕ) × (y < length values) × (occurrences values (length values) (at values y) ≡ largest) × (v ≡ a * 4294967296 + at values y)
          → Memᴰ v (row_cells n m rows a)
      forth v t = Memᴰ.cast t.3 (in_row n m rows a (at values t.0) (small _ t.2) (omega (arith, cell_is (at values t.0), t.2, e)))

      back : (v : ℕ) → (β : ℕ) × (β < 2 ^ m) × (cell n rows a β ≡ (largest_cell n m rows).figure) × (v ≡ a * 4294967296 + β) → Memᴰ v (runs largest a values)
      back v t = Memᴰ.cast t.3 (in_runs values s.ascending largest positive at_most a t.0 (omega (arith, cell_is t.0, t.2, e)))
