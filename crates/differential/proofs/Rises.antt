-- The running value: after each rise its count is the largest so far, and its β the smallest that has it. Assumes nothing.
use mathlib.Core.Path.{◌≡◌, refl, sym, ap, ap₂, ◌∙◌, subst}
use mathlib.Core.Bool.{Bool, true, false}
use mathlib.Core.Logic.{◌⊎◌, inl, inr}
use mathlib.Core.List.{List, [], ◌∷◌}
use Prim.Native.Nat.{ℕ, zero, suc, ◌+◌, ◌-◌, ◌*◌, ◌/◌, ◌%◌, ◌^◌, ◌≤◌, ◌<◌}
use native.Mathlib.Decide.{ℕ_discrete, dec_lt}
use native.Mathlib.Omega.{arith}
use borrow.Author.Tests.{lt-ltb, le-ltb}
use lib.ListN.{length}
use Rattle.boolean.specs.Functions.{at, Below, occurrences}
use Rattle.boolean.specs.Selection.{Candidate}
use Rattle.differential.specs.Running.{risen_at, higher_of, running_after, LargestSoFar, number_in, InRow}
use Rattle.differential.specs.Work.{AfterRow, after_standing}
use Rattle.sorting.proofs.Occurrences.{occurs_more, occurs_same, occurs_none, occurs_le}

-- ---- at the start
pub running_none : (values : List ℕ) → LargestSoFar values 0 4294967295
running_none values = record {
  largest = 0;
  β = 0;
  is = refl;
  small = omega arith;
  so_far = record { most = λ v. omega (arith, occurs_none values v); reached = occurs_none values 0; smallest = λ v l. absurd (omega arith) };
}

-- ---- after a rise
module _ {values : List ℕ} {y best : ℕ} (r : LargestSoFar values y best) {value : ℕ} (small : at values y < 4294967296)
    (risen : value ≡ risen_at values y) where
  abbrev v : ℕ
  v = at values y

  abbrev count : ℕ
  count = occurrences values (y + 1) v

  -- the count that has risen is the largest, or is as large and of a smaller β
  pub running_takes : best < value → LargestSoFar values (y + 1) value
  running_takes h = record {
    largest = count;
    β = v;
    is = risen;
    small = small;
    so_far = record { most = λ u. most u (ℕ_discrete v u); reached = refl; smallest = λ u l. smallest u l (ℕ_discrete r.largest count) };
  }
    where
      most : (u : ℕ) → Dec (v ≡ u) → occurrences values (y + 1) u ≤ count
      most u (yes e) = omega (arith, ap (occurrences values (y + 1)) e)
      most u (no e) = omega (arith, occurs_same values y u e, r.so_far.most u, r.is, r.small)

      smallest : (u : ℕ) → u < v → Dec (r.largest ≡ count) → occurrences values (y + 1) u < count
      smallest u l (yes e) = omega (arith, occurs_same values y u (λ q. omega arith), r.so_far.smallest u (omega (arith, r.is, r.small)))
      smallest u l (no e) = omega (arith, occurs_same values y u (λ q. omega arith), r.so_far.most u, r.is, r.small)

  -- it is not
  pub running_keeps : value ≤ best → LargestSoFar values (y + 1) best
  running_keeps h = record {
    largest = r.largest;
    β = r.β;
    is = r.is;
    small = r.small;
    so_far = record { most = λ u. most u (ℕ_discrete v u); reached = reached; smallest = λ u l. smallest u l (ℕ_discrete v u) };
  }
    where
      most : (u : ℕ) → Dec (v ≡ u) → occurrences values (y + 1) u ≤ r.largest
      most u (yes e) = omega (arith, ap (occurrences values (y + 1)) e, r.is, r.small)
      most u (no e) = omega (arith, occurs_same values y u e, r.so_far.most u)

      reached : occurrences values (y + 1) r.β ≡ r.largest
      reached =
          occurs_same values y r.β (λ e. absurd (omega (arith, r.is, r.small, occurs_more values y v refl, ap (occurrences values y) e, r.so_far.reached)))
          ∙ r.so_far.reached

      smallest : (u : ℕ) → u < r.β → Dec (v ≡ u) → occurrences values (y + 1) u < r.largest
      smallest u l (yes e) = omega (arith, ap (occurrences values (y + 1)) e, r.is, r.small)
      smallest u l (no e) = omega (arith, occurs_same values y u e, r.so_far.smallest u l)

-- ---- the higher of two standings
pub takes_higher : {x y : ℕ} → x < y → higher_of x y ≡ y
takes_higher h = omega arith

pub keeps_higher : {x y : ℕ} → y ≤ x → higher_of x y ≡ x
keeps_higher h = omega arith

-- after a rise the higher of the running value and what has risen is the largest so far
pub running_higher : {values : List ℕ} {y best : ℕ} → LargestSoFar values y best → at values y < 4294967296
    → LargestSoFar values (y + 1) (higher_of best (risen_at values y))
running_higher {values} {y} {best} r small = pick (dec_lt best (risen_at values y))
  where
    pick : Dec (best < risen_at values y) → LargestSoFar values (y + 1) (higher_of best (risen_at values y))
    pick (yes h) = rw (takes_higher h) (running_takes r small refl h)
    pick (no h) = let k : risen_at values y ≤ best = omega arith in rw (keeps_higher k) (running_keeps r small refl k)

pub running_next : {values : List ℕ} {y best new : ℕ} → LargestSoFar values y best → at values y < 4294967296 → new ≡ higher_of best (risen_at values y)
    → LargestSoFar values (y + 1) new
running_next {values} {y} r small e = subst (LargestSoFar values (y + 1)) (sym e) (running_higher r small)

module _ (x y : ℕ) where
  pub higher_either : (higher_of x y ≡ x) ⊎ (higher_of x y ≡ y)
  higher_either = pick (dec_lt x y)
    where
      pick : Dec (x < y) → (higher_of x y ≡ x) ⊎ (higher_of x y ≡ y)
      pick (yes h) = inr (takes_higher h)
      pick (no h) = inl (keeps_higher (omega arith))

  pub higher_left : x ≤ higher_of x y
  higher_left = pick (dec_lt x y)
    where
      pick : Dec (x < y) → x ≤ higher_of x y
      pick (yes h) = omega (arith, takes_higher h)
      pick (no h) = let k : y ≤ x = omega arith in omega (arith, keeps_higher k)

  pub higher_right : y ≤ higher_of x y
  higher_right = pick (dec_lt x y)
    where
      pick : Dec (x < y) → y ≤ higher_of x y
      pick (yes h) = omega (arith, takes_higher h)
      pick (no h) = let k : y ≤ x = omega arith in omega (arith, keeps_higher k)

-- ---- the same under the number of a row
module _ {a : ℕ} where
  pub in_row : {said : ℕ → Type 0} (value : ℕ) → said value → InRow a said (number_in a value)
  in_row value h = record { value = value; is = refl; holds = h }

  pub in_row_map : {said other : ℕ → Type 0} {number : ℕ} → ((value : ℕ) → said value → other value) → InRow a said number → InRow a other number
  in_row_map f t = record { value = t.value; is = t.is; holds = f t.value t.holds }

  -- without the row the standing is left
  pub out_of_row : {said : ℕ → Type 0} {number : ℕ} → InRow a said number → said (number - a * 1099511627776)
  out_of_row {said} {number} t = subst said (let z : t.value ≡ number - a * 1099511627776 = omega (arith, t.is) in z) t.holds

  pub row_below : {said : ℕ → Type 0} {number : ℕ} → InRow a said number → a * 1099511627776 ≤ number
  row_below t = omega (arith, t.is)

pub higher_in_row : (a x y : ℕ) → higher_of (number_in a x) (number_in a y) ≡ number_in a (higher_of x y)
higher_in_row a x y = pick (dec_lt x y)
  where
    pick : Dec (x < y) → higher_of (number_in a x) (number_in a y) ≡ number_in a (higher_of x y)
    pick (yes h) =
        let l : number_in a x < number_in a y = omega arith in
        takes_higher l ∙ ap (number_in a) (sym (takes_higher h))
    pick (no h) =
        let l : y ≤ x = omega arith in
        let k : number_in a y ≤ number_in a x = omega arith in
        keeps_higher k ∙ ap (number_in a) (sym (keeps_higher l))

module _ {a : ℕ} {values : List ℕ} {y best : ℕ} (r : InRow a (LargestSoFar values y) best) {number : ℕ} (small : at values y < 4294967296)
    (risen : number ≡ number_in a (risen_at values y)) where
  pub row_running_takes : best < number → InRow a (LargestSoFar values (y + 1)) number
  row_running_takes h = record {
    value = risen_at values y;
    is = risen;
    holds = running_takes r.holds small refl (let l : r.value < risen_at values y = omega (arith, r.is, risen) in l);
  }

  pub row_running_keeps : number ≤ best → InRow a (LargestSoFar values (y + 1)) best
  row_running_keeps h = record {
    value = r.value;
    is = r.is;
    holds = running_keeps r.holds small refl (let l : risen_at values y ≤ r.value = omega (arith, r.is, risen) in l);
  }

  row_running_higher : InRow a (LargestSoFar values (y + 1)) (higher_of best number)
  row_running_higher = pick (dec_lt best number)
    where
      pick : Dec (best < number) → InRow a (LargestSoFar values (y + 1)) (higher_of best number)
      pick (yes h) = rw (takes_higher h) (row_running_takes h)
      pick (no h) = let k : number ≤ best = omega arith in rw (keeps_higher k) (row_running_keeps k)

  -- so the higher of the two is the running value after the rise
  pub row_running_next : {new : ℕ} → new ≡ higher_of best number → InRow a (LargestSoFar values (y + 1)) new
  row_running_next e = subst (InRow a (LargestSoFar values (y + 1))) (sym e) row_running_higher

-- ---- the running value's own steps
pub rises_none : (values : List ℕ) → running_after values 0 ≡ 4294967295
unfolding running_after
rises_none values = refl

pub rises_next : (values : List ℕ) (y : ℕ)
    → running_after values (y + 1) ≡ higher_of (running_after values y) (risen_at values y)
unfolding running_after
rises_next values y = ap (running_after values) (let z : y + 1 ≡ suc y = omega arith in z)

pub row_rises_next : (a : ℕ) (values : List ℕ) (y : ℕ) {running number : ℕ} → running ≡ number_in a (running_after values y) → number ≡ number_in a (risen_at values y)
    → higher_of running number ≡ number_in a (running_after values (y + 1))
row_rises_next a values y e f =
    ap₂ higher_of e f ∙ higher_in_row a (running_after values y) (risen_at values y) ∙ ap (number_in a) (sym (rises_next values y))

-- after each rise its count is the largest so far, and its β the smallest that has it: whatever part of the values was counted
pub after_each_rise : (values : List ℕ) → Below (2 ^ 32) values → (y : ℕ) → y ≤ length values → LargestSoFar values y (running_after values y)
unfolding running_after
after_each_rise values small zero l = running_none values
after_each_rise values small (suc y) l =
    subst (λ (k : ℕ). LargestSoFar values k (running_after values (suc y))) (let z : y + 1 ≡ suc y = omega arith in z)
    (running_higher (after_each_rise values small y (omega arith)) (small y (omega arith)))

-- ---- the count and its β, out of the running value
module _ {values : List ℕ} {y best : ℕ} (r : LargestSoFar values y best) where
  pub largest_is : best / 4294967296 ≡ r.largest
  largest_is = omega (arith, r.is, r.small)

  pub smallest_is : 4294967295 - best % 4294967296 ≡ r.β
  smallest_is = omega (arith, r.is, r.small)

-- ---- the best cell after a row, from the row's standing alone
module _ (a best : ℕ) (found : Candidate) where
  pub standing_stays : 2 * (best / 4294967296) ≤ found.figure → after_standing a best found ≡ found
  unfolding after_standing
  standing_stays h =
      ap (λ (t : Bool). elim t [ true ↦ record { figure = 2 * (best / 4294967296); witness = a ∷ (4294967295 - best % 4294967296) ∷ [] } | false ↦ found ])
      (le-ltb found.figure (2 * (best / 4294967296)) h)

  pub standing_counts : found.figure < 2 * (best / 4294967296)
      → after_standing a best found ≡ record { figure = 2 * (best / 4294967296); witness = a ∷ (4294967295 - best % 4294967296) ∷ [] }
  unfolding after_standing
  standing_counts h =
      ap (λ (t : Bool). elim t [ true ↦ record { figure = 2 * (best / 4294967296); witness = a ∷ (4294967295 - best % 4294967296) ∷ [] } | false ↦ found ])
      (lt-ltb found.figure (2 * (best / 4294967296)) h)

-- ---- at the end
module _ {values : List ℕ} {best : ℕ} (r : LargestSoFar values (length values) best) where
  pub largest_few : best / 4294967296 ≤ length values
  largest_few = omega (arith, largest_is r, r.so_far.reached, occurs_le values (length values) r.β)

  -- the best cell so far stays, or is the row's largest
  pub row_keeps : (a : ℕ) (found : Candidate) → 2 * (best / 4294967296) ≤ found.figure → AfterRow a values found found
  row_keeps a found h = inl (refl, λ v. omega (arith, r.so_far.most v, largest_is r))

  pub row_takes : (a : ℕ) (found : Candidate) → found.figure < 2 * (best / 4294967296)
      → AfterRow a values found (record { figure = 2 * (best / 4294967296); witness = a ∷ (4294967295 - best % 4294967296) ∷ [] })
  row_takes a found h = inr (record {
    largest = r.largest;
    β = r.β;
    is = ap₂ (λ (k v : ℕ). record { figure = 2 * k; witness = a ∷ v ∷ [] }) (largest_is r) (smallest_is r);
    above = omega (arith, largest_is r);
    of_row = r.so_far;
  })

  -- so does what the standing leaves
  pub row_after : (a : ℕ) (found : Candidate) → AfterRow a values found (after_standing a best found)
  row_after a found = pick (dec_lt found.figure (2 * (best / 4294967296)))
    where
      pick : Dec (found.figure < 2 * (best / 4294967296)) → AfterRow a values found (after_standing a best found)
      pick (yes h) = rw (standing_counts a best found h) (row_takes a found h)
      pick (no h) = let k : 2 * (best / 4294967296) ≤ found.figure = omega arith in rw (standing_stays a best found k) (row_keeps a found k)
