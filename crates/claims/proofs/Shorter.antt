-- The short list of a list of additions has only columns of that list, each once, so it is no longer than the list, nor than the columns.
use mathlib.Core.Path.{◌≡◌, refl, sym, ap, ◌∙◌, subst}
use mathlib.Core.Bool.{true, false, not, ◌&&◌, true≢false}
use mathlib.Core.List.Memᴰ
use mathlib.Core.List.{List, [], ◌∷◌, map, Memᴰ}
use Prim.Native.Nat.{ℕ, ◌≤◌}
use native.Mathlib.Nat.{le_refl}
use native.Mathlib.Omega.{arith}
use borrow.Author.Tests.{eqb-true, not-true}
use lib.Dec.{eqb}
use lib.ListN.{length, length-map}
use Rattle.boolean.specs.Sums.{keep}
use Rattle.boolean.specs.Selection.{Ascending}
use Rattle.boolean.proofs.Kept.{mem_keep, ascending_keep}
use Rattle.boolean.proofs.Lists.{mem_list_from, ascending_list_from}
use Rattle.boolean.proofs.Members.{distinct_ascending, distinct_le, ascending_map}
use Rattle.columns.specs.Addition.{Addition}
use Rattle.claims.specs.Shortening.{xors, to_column, merged, one_for_each, adds_nothing}

-- one for each column that something is added to
abbrev pub short : ℕ → List ℕ → List Addition → List Addition
short m lent list = keep (λ a. not (adds_nothing a)) (one_for_each m lent list)

-- where the columns rise along a list, none stands twice
pub column_once : (j : ℕ) (list : List Addition) → Ascending (λ (a : Addition). a.column) list → length (to_column j list) ≤ 1
unfolding to_column
column_once j list rise =
    few (to_column j list) (ascending_keep (λ a. eqb a.column j) (λ (a : Addition). a.column) list rise)
    (λ a k. eqb-true a.column j (mem_keep (λ a. eqb a.column j) list a k).1)
  where
    few : (l : List Addition) → Ascending (λ (a : Addition). a.column) l → ((a : Addition) → Memᴰ a l → a.column ≡ j) → length l ≤ 1
    few [] r h = omega arith
    few (a ∷ []) r h = le_refl 1
    few (a ∷ b ∷ l) r h = absurd (omega (
      arith,
      r.0 b (Memᴰ.head refl),
      h a (Memᴰ.head refl),
      h b
          (Memᴰ.tail (Memᴰ.head refl)),
    ))

module _ (m : ℕ) (lent : List ℕ) (list : List Addition) where
  pub ascending_columns : Ascending (λ (a : Addition). a.column) (short m lent list)
  unfolding one_for_each
  ascending_columns =
      ascending_keep (λ a. not (adds_nothing a)) (λ (a : Addition). a.column) (one_for_each m lent list)
      (ascending_list_from (λ (a : Addition). a.column) 1 m (merged lent list) (λ i j l k h. k))

  -- a column that nothing is added to
  nothing_added : (j : ℕ) → to_column j list ≡ [] → adds_nothing (merged lent list j) ≡ true
  unfolding xors
  nothing_added j e = ap (λ (l : List Addition). eqb (xors (λ a. a.mask) l) 0 && eqb (xors (λ a. a.constant) l) 0) e

  some_added : (j : ℕ) (l : List Addition) → to_column j list ≡ l → adds_nothing (merged lent list j) ≡ false
      → Memᴰ j (map (λ (a : Addition). a.column) list)
  unfolding to_column
  some_added j [] e h = absurd (true≢false (sym (nothing_added j e) ∙ h))
  some_added j (a ∷ l) e h =
      let t = mem_keep (λ a. eqb a.column j) list a (subst (λ (l : List Addition). Memᴰ a l) (sym e) (Memᴰ.head refl)) in
      subst (λ (i : ℕ). Memᴰ i (map (λ (a : Addition). a.column) list)) (eqb-true a.column j t.1)
      (Memᴰ.map (λ (a : Addition). a.column) t.0)

  own_column : (a : Addition) → Memᴰ a (short m lent list) → Memᴰ a.column (map (λ (a : Addition). a.column) list)
  unfolding one_for_each
  own_column a k =
      let t = mem_keep (λ a. not (adds_nothing a)) (one_for_each m lent list) a k in
      let u = mem_list_from 1 m (merged lent list) a t.0 in
      subst (λ (i : ℕ). Memᴰ i (map (λ (a : Addition). a.column) list)) (sym (ap (λ (b : Addition). b.column) u.3))
      (some_added u.0 (to_column u.0 list) refl (ap adds_nothing (sym u.3) ∙ not-true (adds_nothing a) t.1))

  pub no_longer : length (short m lent list) ≤ length list
  no_longer =
      let columns : List ℕ = map (λ (a : Addition). a.column) (short m lent list) in
      let fewer = distinct_le columns (map (λ (a : Addition). a.column) list)
      (distinct_ascending (λ i. i) columns (ascending_map (λ (a : Addition). a.column) (λ i. i) (short m lent list) ascending_columns))
      (λ i k. let t = Memᴰ.of_map (λ (a : Addition). a.column) (short m lent list) k in
      subst (λ (j : ℕ). Memᴰ j (map (λ (a : Addition). a.column) list)) t.2 (own_column t.0 t.1)) in
      omega (arith, length-map (short m lent list) (λ (a : Addition). a.column), length-map list (λ (a : Addition). a.column))
