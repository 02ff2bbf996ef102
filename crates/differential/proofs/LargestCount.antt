-- How many values have the largest count, kept beside the running value: after each rise it is as many as there are. Assumes nothing.
use mathlib.Core.Path.{◌≡◌, refl, sym, ap, ap₂, ◌∙◌}
use mathlib.Core.Bool.{Bool, true, false}
use mathlib.Core.List.{List}
use Prim.Native.Nat.{ℕ, zero, suc, ◌+◌, ◌/◌, ◌<◌, ◌≤◌, zero-le}
use native.Mathlib.Nat.{not-suc-le-zero}
use native.Mathlib.Decide.{ℕ_discrete, dec_lt}
use native.Mathlib.Omega.{arith}
use borrow.Author.Tests.{eq-eqb, ne_eqb}
use lib.Dec.{eqb}
use lib.ListN.{length}
use Rattle.boolean.specs.Sums.{count_below, one_if}
use Rattle.boolean.specs.Functions.{at, Below, occurrences}
use Rattle.boolean.proofs.Counts.{count_cong}
use Rattle.boolean.proofs.Counted.{count_no}
use Rattle.differential.specs.Running.{risen_at, higher_of, LargestSoFar, number_in, InRow}
use Rattle.differential.specs.Work.{CellsAfter, reaching, RunningCells}
use Rattle.sorting.proofs.Occurrences.{occurs_more, occurs_same, occurs_le}
use Rattle.differential.proofs.Rises.{running_none, takes_higher, keeps_higher, largest_is, higher_in_row}

-- a test that passes at one number more counts one more
count_one_more : (k : ℕ) (p q : ℕ → Bool) (v : ℕ) → v < k → p v ≡ false → q v ≡ true → ((u : ℕ) → (u ≡ v → ⊥) → p u ≡ q u) → count_below k q ≡ count_below k p + 1
unfolding count_below one_if
count_one_more zero p q v l e f h = absurd (not-suc-le-zero l)
count_one_more (suc k) p q v l e f h = pick (λ m. count_one_more k p q v m e f h) (ℕ_discrete v k)
  where
    pick : (v < k → count_below k q ≡ count_below k p + 1) → Dec (v ≡ k) → count_below k q + one_if (q k) ≡ count_below k p + one_if (p k) + 1
    pick rec (yes z) =
        let below : count_below k p ≡ count_below k q = count_cong k p q (λ u m. h u (λ w. omega arith)) in
        let here : one_if (q k) ≡ 1 = ap (λ (u : ℕ). one_if (q u)) (sym z) ∙ ap one_if f in
        let there : one_if (p k) ≡ 0 = ap (λ (u : ℕ). one_if (p u)) (sym z) ∙ ap one_if e in
        omega arith
    pick rec (no z) =
        let below = rec (omega arith) in
        let same : one_if (p k) ≡ one_if (q k) = ap one_if (h k (λ w. z (sym w))) in
        omega arith

-- before the first rise
pub cells_none : (values : List ℕ) → RunningCells values 0 4294967295 0
cells_none values = record { running = running_none values; few = zero-le; number = λ size b l. absurd (omega arith) }

-- after a rise
module _ {values : List ℕ} {y best cells : ℕ} (t : RunningCells values y best cells) {value : ℕ} (inside : y < length values) (small : at values y < 4294967296)
    (risen : value ≡ risen_at values y) {r : ℕ} (after : CellsAfter (best / 4294967296) (value / 4294967296) cells r) where
  abbrev v : ℕ
  v = at values y

  abbrev count : ℕ
  count = occurrences values (y + 1) v

  abbrev largest : ℕ
  largest = t.running.largest

  count_is : value / 4294967296 ≡ count
  count_is = omega (arith, risen, small)

  one_up : count ≡ occurrences values y v + 1
  one_up = occurs_more values y v refl

  -- the largest count before was at most y
  largest_le : largest ≤ y
  largest_le = omega (arith, t.running.so_far.reached, occurs_le values y t.running.β)

  -- ---- how many have the count of the value that has risen, or another
  alone : largest < count → (size : ℕ) → Below size values → reaching size values (y + 1) count ≡ 1
  unfolding reaching
  alone h size b =
      count_one_more size (λ u. false) (λ u. eqb (occurrences values (y + 1) u) count) v (b y inside) refl (eq-eqb count count refl)
      (λ u e. sym (ne_eqb (occurrences values (y + 1) u) count (λ q. absurd (omega (arith, occurs_same values y u (λ z. e (sym z)), t.running.so_far.most u)))))
      ∙ ap (λ (k : ℕ). k + 1) (count_no size (λ u. false) (λ u l. refl))

  beside : largest ≡ count → (size : ℕ) → Below size values → reaching size values (y + 1) count ≡ reaching size values y largest + 1
  unfolding reaching
  beside h size b =
      count_one_more size (λ u. eqb (occurrences values y u) largest) (λ u. eqb (occurrences values (y + 1) u) count) v (b y inside)
      (ne_eqb (occurrences values y v) largest (λ q. absurd (omega (arith, one_up)))) (eq-eqb count count refl)
      (λ u e. ap₂ eqb (sym (occurs_same values y u (λ z. e (sym z)))) h)

  apart : count < largest → (size : ℕ) → reaching size values (y + 1) largest ≡ reaching size values y largest
  unfolding reaching
  apart h size = count_cong size _ _ (λ u l. pick u (ℕ_discrete u v))
    where
      pick : (u : ℕ) → Dec (u ≡ v) → eqb (occurrences values (y + 1) u) largest ≡ eqb (occurrences values y u) largest
      pick u (yes e) =
          ne_eqb _ largest (λ q. absurd (omega (arith, ap (occurrences values (y + 1)) e)))
          ∙ sym (ne_eqb _ largest (λ q. absurd (omega (arith, one_up, ap (occurrences values y) e))))
      pick u (no e) = ap (λ (k : ℕ). eqb k largest) (occurs_same values y u (λ z. e (sym z)))

  -- ---- so the number that the code keeps is the number of them
  few_next : r ≤ y + 1
  few_next = pick (dec_lt largest count) (ℕ_discrete largest count)
    where
      pick : Dec (largest < count) → Dec (largest ≡ count) → r ≤ y + 1
      pick (yes l) e = omega (arith, after.above (omega (arith, count_is, largest_is t.running)))
      pick (no l) (yes e) = omega (arith, after.equal (omega (arith, count_is, largest_is t.running)), t.few)
      pick (no l) (no e) = omega (arith, after.under (omega (arith, count_is, largest_is t.running)), t.few)

  number_takes : best < value → (size : ℕ) → Below size values → r ≡ reaching size values (y + 1) count
  number_takes h size b = pick (dec_lt largest count)
    where
      pick : Dec (largest < count) → r ≡ reaching size values (y + 1) count
      pick (yes l) = after.above (omega (arith, count_is, largest_is t.running)) ∙ sym (alone l size b)
      pick (no l) =
          let same : largest ≡ count = omega (arith, count_is, largest_is t.running) in
          after.equal (omega (arith, count_is, largest_is t.running))
          ∙ ap (λ (k : ℕ). k + 1) (t.number size b (omega (arith, largest_le, one_up))) ∙ sym (beside same size b)

  number_keeps : value ≤ best → (size : ℕ) → Below size values → r ≡ reaching size values (y + 1) largest
  number_keeps h size b = pick (ℕ_discrete largest count)
    where
      pick : Dec (largest ≡ count) → r ≡ reaching size values (y + 1) largest
      pick (yes same) =
          after.equal (omega (arith, count_is, largest_is t.running))
          ∙ ap (λ (k : ℕ). k + 1) (t.number size b (omega (arith, largest_le, one_up))) ∙ sym (beside same size b)
          ∙ ap (reaching size values (y + 1)) (sym same)
      pick (no other) =
          let less : count < largest = omega (arith, count_is, largest_is t.running) in
          after.under (omega (arith, count_is, largest_is t.running)) ∙ t.number size b (omega (arith, largest_le)) ∙ sym (apart less size)

  pub cells_next : {new : ℕ} → LargestSoFar values (y + 1) new → new ≡ higher_of best value → RunningCells values (y + 1) new r
  cells_next {new} after_rise e = record { running = after_rise; few = few_next; number = λ size b l. pick size b (dec_lt best value) }
    where
      pick : (size : ℕ) → Below size values → Dec (best < value) → r ≡ reaching size values (y + 1) after_rise.largest
      pick size b (yes h) =
          let is : count ≡ after_rise.largest = omega (arith, count_is, largest_is after_rise, e, takes_higher h) in
          number_takes h size b ∙ ap (reaching size values (y + 1)) is
      pick size b (no h) =
          let k : value ≤ best = omega arith in
          let is : largest ≡ after_rise.largest = omega (arith, largest_is t.running, largest_is after_rise, e, keeps_higher k) in
          number_keeps k size b ∙ ap (reaching size values (y + 1)) is

-- the same under the number of a row
module _ {a : ℕ} {values : List ℕ} {y best cells : ℕ} (t : InRow a (λ value. RunningCells values y value cells) best) {number : ℕ} (inside : y < length values)
    (small : at values y < 4294967296) (risen : number ≡ number_in a (risen_at values y)) {r : ℕ} (after : CellsAfter (best / 4294967296) (number / 4294967296) cells r) where
  without_row : CellsAfter (t.value / 4294967296) (risen_at values y / 4294967296) cells r
  without_row = record {
    above = λ h. after.above (omega (arith, t.is, risen));
    equal = λ h. after.equal (omega (arith, t.is, risen));
    under = λ h. after.under (omega (arith, t.is, risen));
  }

  pub row_cells_next : {new : ℕ} → InRow a (LargestSoFar values (y + 1)) new → new ≡ higher_of best number → InRow a (λ value. RunningCells values (y + 1) value r) new
  row_cells_next {new} n e = record {
    value = n.value;
    is = n.is;
    holds =
        cells_next t.holds inside small refl without_row n.holds
        (let z : n.value ≡ higher_of t.value (risen_at values y) =
        omega (arith, n.is, e ∙ ap₂ higher_of t.is risen ∙ higher_in_row a t.value (risen_at values y)) in z);
  }
