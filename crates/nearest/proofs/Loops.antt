-- The loops that list pairs: over the places of a spectrum, over the masks of k ones, and over k. Each knows what stands in the list, and that the
-- next entry's number fits. Assumes nothing.
use mathlib.Core.Path.{◌≡◌, sym, ap, ◌∙◌, subst}
use mathlib.Core.List.{List, [], ◌∷◌, ◌++◌, append-nil}
use Prim.Native.Nat.{ℕ, ◌+◌, ◌*◌, ◌-◌, ◌^◌, ◌≤◌, ◌<◌, min, zero-le}
use native.Mathlib.Nat.{le_refl}
use native.Mathlib.Omega.{arith}
use lib.Count.{ones, ones-ones}
use lib.IntN.{ℤ}
use lib.ListN.{length}
use lib.Pow.{pow_mono}
use lib.Seq.{sets}
use Rattle.boolean.specs.Sums.{list_from, list_below, each, AnyContent}
use Rattle.boolean.specs.Functions.{value_at}
use Rattle.boolean.proofs.Lists.{each_append, each_from_one, each_from_zero}
use Rattle.boolean.proofs.Stored.{Stored, stored_none, stored_more}
use Rattle.nearest.specs.declared.Sought.{Sought}
use Rattle.nearest.specs.Work.{NextOfOnes, masks_with_ones, pairs_at, pairs_of_ones, pairs_of_all, pair_number_at, pair_numbers, ListLent}
use Rattle.nearest.proofs.Masks.{masks_none, masks_next, masks_all}

-- ---- the places of a spectrum
pub record Placing (c size : ℕ) (values : List ℤ) (start : ℕ) (old : List ℕ) (next : ℕ) (list : List ℕ) (w : ℕ) : Type 0 where
  pub within : w ≤ length values
  pub few : next ≤ start + w
  pub stored : Stored start old (each (list_below w (λ w. w)) (λ w. pair_number_at c size w (value_at values w))) next list

module _ {c size : ℕ} {values : List ℤ} {start : ℕ} {old : List ℕ} where
  pub placing_none : Placing c size values start old start old 0
  unfolding each list_below list_from
  placing_none = record { within = zero-le; few = omega arith; stored = stored_none start old }

  module _ {next : ℕ} {list : List ℕ} {w : ℕ} (t : Placing c size values start old next list w) where
    pub placing_next : {after : ℕ} {list' : List ℕ} → w < length values → after ≤ next + 1 → after ≡ next + length (pair_number_at c size w (value_at values w))
        → list' ≡ sets list next (pair_number_at c size w (value_at values w)) → Placing c size values start old after list' (w + 1)
    placing_next {after} {list'} l h p q = record {
      within = omega arith;
      few = omega (arith, t.few);
      stored =
          subst (λ (k : List ℕ). Stored start old k after list') (sym (each_from_zero w (λ w. pair_number_at c size w (value_at values w))))
          (stored_more t.stored (pair_number_at c size w (value_at values w)) p q);
    }

    pub placing_all : length values ≤ w → (next ≡ start + length (pair_numbers c size values)) × (list ≡ sets old start (pair_numbers c size values))
    unfolding pair_numbers
    placing_all h =
        let end : w ≡ length values = omega (arith, t.within) in
        let is = ap (λ (k : ℕ). each (list_below k (λ w. w)) (λ w. pair_number_at c size w (value_at values w))) end in
        (t.stored.place ∙ ap (λ (l : List ℕ). start + length l) is, t.stored.stored ∙ ap (sets old start) is)

-- the arrays to work in, with any content
pub lent_again : {s : Sought} {rows table table' : List ℕ} {work work' values values' : List ℤ} → ListLent s rows table work values
    → AnyContent table table' → AnyContent work work' → AnyContent values values' → ListLent s rows table' work' values'
lent_again l same_table same_work same_values_lem = record {
  known = l.known;
  arrays = record {
    box = l.arrays.box;
    table_size = same_table ∙ l.arrays.table_size;
    out_size = same_work ∙ l.arrays.out_size;
  };
  values_size = same_values_lem ∙ l.values_size;
}

-- ---- the masks of k ones
pub record Listing (s : Sought) (rows : List ℕ) (k start : ℕ) (old table : List ℕ) (work values : List ℤ) (next : ℕ) (list : List ℕ) (c : ℕ) : Type 0 where
  pub lent : ListLent s rows table work values
  pub c_low : 1 ≤ c
  pub c_ones : ones c ≡ k
  pub few : next ≤ start + 256 * min c (2 ^ s.m)
  pub stored : Stored start old (each (masks_with_ones k (min c (2 ^ s.m))) (λ c. pairs_at s.n rows s.d c)) next list

module _ {s : Sought} {rows : List ℕ} {k start : ℕ} {old : List ℕ} where
  pub listing_none : {table : List ℕ} {work values : List ℤ} {c : ℕ} → ListLent s rows table work values → 1 ≤ k → k ≤ s.m → c ≡ 2 ^ k - 1
      → Listing s rows k start old table work values start old c
  unfolding each
  listing_none {c = c} l low high e =
      let two : 2 ≤ 2 ^ k = pow_mono {i = 1} {j = k} low in
      let end : min c (2 ^ s.m) ≡ 2 ^ k - 1 = omega (arith, pow_mono {i = k} {j = s.m} high) in
      record {
        lent = l;
        c_low = omega arith;
        c_ones = ap ones e ∙ ones-ones k;
        few = omega arith;
        stored =
            subst (λ (l : List ℕ). Stored start old (each l (λ c. pairs_at s.n rows s.d c)) start old) (sym (ap (masks_with_ones k) end ∙ masks_none k low))
            (stored_none start old);
      }

  module _ {table : List ℕ} {work values : List ℤ} {next : ℕ} {list : List ℕ} {c : ℕ} (t : Listing s rows k start old table work values next list c) where
    pub listing_next : {table' : List ℕ} {work' values' : List ℤ} {after : ℕ} {list' : List ℕ} {r : ℕ} → c < 2 ^ s.m → NextOfOnes c r
        → ListLent s rows table' work' values' → after ≡ next + length (pairs_at s.n rows s.d c) → after ≤ next + 256
        → list' ≡ sets list next (pairs_at s.n rows s.d c) → Listing s rows k start old table' work' values' after list' r
    unfolding each
    listing_next {after = after} {list' = list'} {r = r} l next_is again p h q =
        let f : ℕ → List ℕ = λ c. pairs_at s.n rows s.d c in
        let here : min c (2 ^ s.m) ≡ c = omega arith in
        let is : each (masks_with_ones k (min r (2 ^ s.m))) f ≡ each (masks_with_ones k (min c (2 ^ s.m))) f ++ f c
        = ap (λ (l : List ℕ). each l f) (masks_next k c r (2 ^ s.m) t.c_low t.c_ones next_is l)
        ∙ each_append (masks_with_ones k c) (c ∷ []) f ∙ ap (λ (l : List ℕ). each (masks_with_ones k c) f ++ l) (append-nil (f c))
        ∙ ap (λ (z : ℕ). each (masks_with_ones k z) f ++ f c) (sym here) in
        record {
          lent = again;
          c_low = omega (arith, t.c_low, next_is.above);
          c_ones = next_is.same ∙ t.c_ones;
          few = omega (arith, t.few, next_is.above);
          stored = subst (λ (k : List ℕ). Stored start old k after list') (sym is) (stored_more t.stored (f c) p q);
        }

    pub listing_all : 2 ^ s.m ≤ c
        → (next ≡ start + length (pairs_of_ones s rows k)) × (next ≤ start + 2 ^ 40) × (list ≡ sets old start (pairs_of_ones s rows k))
    listing_all h =
        let end : min c (2 ^ s.m) ≡ 2 ^ s.m = omega arith in
        let is = ap (λ (z : ℕ). each (masks_with_ones k z) (λ c. pairs_at s.n rows s.d c)) end in (
          t.stored.place ∙ ap (λ (l : List ℕ). start + length l) is,
          omega (arith, t.few, pow_mono {i = s.m} {j = 32} t.lent.arrays.box.m_high),
          t.stored.stored ∙ ap (sets old start) is,
        )

-- ---- one, two, .. ones
pub record Rising (s : Sought) (rows old table : List ℕ) (work values : List ℤ) (next : ℕ) (list : List ℕ) (k : ℕ) : Type 0 where
  pub lent : ListLent s rows table work values
  pub k_low : 1 ≤ k
  pub k_high : k ≤ s.i + 1
  pub few : next ≤ 2 ^ 40 * (k - 1)
  pub stored : Stored 0 old (each (list_from 1 (k - 1) (λ k. k)) (pairs_of_ones s rows)) next list

module _ {s : Sought} {rows old : List ℕ} where
  pub rising_none : {table : List ℕ} {work values : List ℤ} → ListLent s rows table work values → Rising s rows old table work values 0 old 1
  unfolding each list_from
  rising_none l = record { lent = l; k_low = le_refl 1; k_high = omega (arith, l.known.i_low); few = zero-le; stored = stored_none 0 old }

  module _ {table : List ℕ} {work values : List ℤ} {next : ℕ} {list : List ℕ} {k : ℕ} (t : Rising s rows old table work values next list k) where
    -- a limit is at most 32
    rising_limit : s.i ≤ 32
    rising_limit = omega (arith, t.lent.known.i_high, t.lent.arrays.box.m_high)

    pub rising_next : {table' : List ℕ} {work' values' : List ℤ} {after : ℕ} {list' : List ℕ} → k ≤ s.i → ListLent s rows table' work' values'
        → after ≡ next + length (pairs_of_ones s rows k) → after ≤ next + 2 ^ 40 → list' ≡ sets list next (pairs_of_ones s rows k)
        → Rising s rows old table' work' values' after list' (k + 1)
    rising_next {after = after} {list' = list'} l again p h q = record {
      lent = again;
      k_low = omega arith;
      k_high = omega arith;
      few = omega (arith, t.few, t.k_low);
      stored = subst (λ (l : List ℕ). Stored 0 old l after list') (sym (each_from_one k (pairs_of_ones s rows) t.k_low)) (stored_more t.stored (pairs_of_ones s rows k) p q);
    }

    pub rising_all : s.i < k → (next ≡ length (pairs_of_all s rows)) × (list ≡ sets old 0 (pairs_of_all s rows))
    rising_all h =
        let end : k - 1 ≡ s.i = omega (arith, t.k_high) in
        let is = ap (λ (z : ℕ). each (list_from 1 z (λ k. k)) (pairs_of_ones s rows)) end ∙ masks_all s.m s.i (λ c. pairs_at s.n rows s.d c) in
        (omega (arith, t.stored.place, ap length is), t.stored.stored ∙ ap (sets old 0) is)
