-- The list of cells row by row: which cells a row has, how many, and in which order; and the loops that count them and write them. Assumes nothing.
use mathlib.Core.Path.{◌≡◌, refl, sym, ap, ◌∙◌}
use mathlib.Core.Bool.{Bool, true, false}
use mathlib.Core.List.Memᴰ
use mathlib.Core.List.{List, [], ◌∷◌, ◌++◌, map, map-append, Memᴰ}
use mathlib.Core.Logic.{◌⊎◌, inl, inr}
use Prim.Native.Nat.{ℕ, zero, suc, ◌+◌, ◌-◌, ◌*◌, ◌^◌, ◌<◌, ◌≤◌, zero-le}
use native.Mathlib.Nat.{le_refl}
use native.Mathlib.Omega.{arith}
use borrow.Author.Tests.{eq-eqb, eqb-true}
use lib.Dec.{eqb}
use lib.ListN.{length, length-map, length-append}
use lib.Pow.{pow_pos}
use lib.Seq.{sets}
use Rattle.boolean.specs.Sums.{count_below, one_if, list_from, list_below, each, keep}
use Rattle.boolean.specs.Selection.{Candidate, Ascending, SameMembers}
use Rattle.boolean.proofs.Kept.{each_each, mem_keep, in_keep, ascending_keep}
use Rattle.boolean.proofs.Lists.{each_from_one, each_grows, each_counts}
use Rattle.boolean.proofs.Members.{if_kept, ascending_map}
use Rattle.boolean.proofs.Stored.{Stored, stored_none, stored_room, stored_more}
use Rattle.refusals.specs.Table.{Box}
use Rattle.differential.specs.XorTable.{cell, cells_of, cells, largest_cell, largest_cells, coded}
use Rattle.differential.specs.Work.{IsRow, row_cells}
use Rattle.differential.specs.Statements.{cell_candidate}
use Rattle.differential.proofs.Cells.{in_cells_of, mem_cells_of, ascending_cells_of}

-- ---- lists in general
pub map_each : {A B C : Type 0} (f : B → C) (xs : List A) (g : A → List B) → map f (each xs g) ≡ each xs (λ x. map f (g x))
unfolding each
map_each f [] g = refl
map_each {C = C} f (x ∷ xs) g = map-append f (g x) (each xs g) ∙ ap (λ (l : List C). map f (g x) ++ l) (map_each f xs g)

-- the members of a list of values of a rule, each turned into a list
each_rule : {A B : Type 0} (i k : ℕ) (g : ℕ → A) (f : A → List B) → each (list_from i k g) f ≡ each (list_from i k (λ c. c)) (λ c. f (g c))
unfolding each list_from
each_rule i zero g f = refl
each_rule {B = B} i (suc k) g f = ap (λ (l : List B). f (g i) ++ l) (each_rule (suc i) k g f)

-- one member where a test passes is counted once
if_counted : {A : Type 0} (b : Bool) (x : A) → length (if_kept b x) ≡ one_if b
unfolding one_if
if_counted true x = refl
if_counted false x = refl

no_members : (l : List ℕ) → ((v : ℕ) → Memᴰ v l → ⊥) → l ≡ []
no_members [] h = refl
no_members (x ∷ xs) h = absurd (h x (Memᴰ.head refl))

one_member : (l : List ℕ) (v : ℕ) → length l ≡ 1 → Memᴰ v l → l ≡ v ∷ []
one_member [] v e m = absurd (Memᴰ.not-nil m)
one_member (x ∷ []) v e m = pick (Memᴰ.cases_cons m)
  where
    pick : (v ≡ x) ⊎ Memᴰ v [] → x ∷ [] ≡ v ∷ []
    pick (inl q) = ap (λ (z : ℕ). z ∷ []) (sym q)
    pick (inr n) = absurd (Memᴰ.not-nil n)
one_member (x ∷ z ∷ zs) v e m = absurd (omega arith)

-- two lists that rise and have the same members are equal
pub ascending_same : (xs ys : List ℕ) → Ascending (λ v. v) xs → Ascending (λ v. v) ys → SameMembers xs ys → xs ≡ ys
ascending_same [] ys p q h = sym (no_members ys (λ v m. Memᴰ.not-nil ((h v).1 m)))
ascending_same (x ∷ xs) [] p q h = absurd (Memᴰ.not-nil ((h x).0 (Memᴰ.head refl)))
ascending_same (x ∷ xs) (y ∷ ys) p q h = join same (ascending_same xs ys p.1 q.1 (λ v. (λ m. forth v m (Memᴰ.cases_cons ((h v).0 (Memᴰ.tail m))), λ m. back v m (Memᴰ.cases_cons ((h v).1 (Memᴰ.tail m))))))
  where
    same : x ≡ y
    same = pick (Memᴰ.cases_cons ((h x).0 (Memᴰ.head refl))) (Memᴰ.cases_cons ((h y).1 (Memᴰ.head refl)))
      where
        pick : (x ≡ y) ⊎ Memᴰ x ys → (y ≡ x) ⊎ Memᴰ y xs → x ≡ y
        pick (inl e) d = e
        pick (inr m) (inl e) = sym e
        pick (inr m) (inr n) = absurd (omega (arith, p.0 y n, q.0 x m))

    forth : (v : ℕ) → Memᴰ v xs → (v ≡ y) ⊎ Memᴰ v ys → Memᴰ v ys
    forth v m (inl e) = absurd (omega (arith, p.0 v m, same))
    forth v m (inr n) = n

    back : (v : ℕ) → Memᴰ v ys → (v ≡ x) ⊎ Memᴰ v xs → Memᴰ v xs
    back v m (inl e) = absurd (omega (arith, q.0 v m, same))
    back v m (inr n) = n

    join : x ≡ y → xs ≡ ys → x ∷ xs ≡ y ∷ ys
    join e r = ap (λ (z : ℕ). z ∷ xs) e ∙ ap (λ (l : List ℕ). y ∷ l) r

-- ---- the cells of one row
module _ (n m : ℕ) (rows : List ℕ) where
  abbrev figure : ℕ
  figure = (largest_cell n m rows).figure

  abbrev reaches : Candidate → Bool
  reaches c = eqb c.figure figure

  abbrev kept : Candidate → List Candidate
  kept c = if_kept (reaches c) c

  module _ (a : ℕ) where
    pub mem_row : (v : ℕ) → Memᴰ v (row_cells n m rows a) → (β : ℕ) × (β < 2 ^ m) × (cell n rows a β ≡ figure) × (v ≡ a * 4294967296 + β)
    unfolding row_cells
    mem_row v k =
        let t = Memᴰ.of_map coded (keep reaches (cells_of n m rows a)) k in
        let s = mem_keep reaches (cells_of n m rows a) t.0 t.1 in
        let u = mem_cells_of n m rows a t.0 s.0 in
        (u.0, u.1, sym (ap (λ (c : Candidate). c.figure) u.2) ∙ eqb-true _ figure s.1, sym t.2 ∙ ap coded u.2)

    pub in_row : (β : ℕ) → β < 2 ^ m → cell n rows a β ≡ figure → Memᴰ (a * 4294967296 + β) (row_cells n m rows a)
    unfolding row_cells
    in_row β l e = Memᴰ.map coded (in_keep reaches (cells_of n m rows a) (cell_candidate n rows a β) (in_cells_of n m rows a β l) (eq-eqb _ figure e))

    pub ascending_row : Ascending (λ v. v) (row_cells n m rows a)
    unfolding row_cells
    ascending_row =
        ascending_map coded (λ v. v) (keep reaches (cells_of n m rows a)) (ascending_keep reaches coded (cells_of n m rows a) (ascending_cells_of n m rows 4294967296 a))

    -- it has none, or one alone
    pub row_none : ((v : ℕ) → cell n rows a v ≡ figure → ⊥) → row_cells n m rows a ≡ []
    row_none h = no_members (row_cells n m rows a) (λ v k. let t = mem_row v k in h t.0 t.2)

    pub row_one : (β : ℕ) → length (row_cells n m rows a) ≡ 1 → β < 2 ^ m → cell n rows a β ≡ figure → row_cells n m rows a ≡ (a * 4294967296 + β) ∷ []
    row_one β e l q = one_member (row_cells n m rows a) (a * 4294967296 + β) e (in_row β l q)

    pub row_counted : length (row_cells n m rows a) ≡ count_below (2 ^ m) (λ v. eqb (cell n rows a v) figure)
    unfolding row_cells keep cells_of list_below
    row_counted =
        length-map (keep reaches (cells_of n m rows a)) coded
        ∙ ap length (each_rule 0 (2 ^ m) (cell_candidate n rows a) kept)
        ∙ each_counts (2 ^ m) (λ β. kept (cell_candidate n rows a β)) (λ β. eqb (cell n rows a β) figure) (λ β. if_counted (eqb (cell n rows a β) figure) (cell_candidate n rows a β))

  -- ---- all rows: the cells of the rows below a
  abbrev pub cells_below : ℕ → List ℕ
  cells_below a = each (list_from 1 (a - 1) (λ a. a)) (row_cells n m rows)

  pub cells_by_rows : cells_below (2 ^ n) ≡ largest_cells n m rows
  unfolding largest_cells cells keep row_cells
  cells_by_rows =
      sym (ap (map coded) (each_each (list_from 1 (2 ^ n - 1) (λ a. a)) (cells_of n m rows) kept)
      ∙ map_each coded (list_from 1 (2 ^ n - 1) (λ a. a)) (λ a. keep reaches (cells_of n m rows a)))

  cells_next : (a : ℕ) → 1 ≤ a → cells_below (a + 1) ≡ cells_below a ++ row_cells n m rows a
  cells_next a h = each_from_one a (row_cells n m rows) h

  cells_none : cells_below 1 ≡ []
  unfolding each list_from
  cells_none = refl

  -- the rows to a have no more than all rows
  cells_room : (a : ℕ) → IsRow n a → length (cells_below a ++ row_cells n m rows a) ≤ length (largest_cells n m rows)
  cells_room a r =
      omega (
        arith,
        ap length (cells_next a r.0),
        ap length cells_by_rows,
        each_grows 1 (a + 1 - 1) (2 ^ n - 1) (row_cells n m rows) (let l = r.1 in let z : a + 1 - 1 ≤ 2 ^ n - 1 = omega arith in z),
      )

-- ---- the loop that counts them
pub record Counting (n m : ℕ) (rows : List ℕ) (count a : ℕ) : Type 0 where
  pub a_low : 1 ≤ a
  pub a_high : a ≤ 2 ^ n
  pub so_far : count ≡ length (cells_below n m rows a)
  pub small : count ≤ 128 * (a - 1)

module _ {n m : ℕ} {rows : List ℕ} where
  pub counting_none : Counting n m rows 0 1
  counting_none = record { a_low = le_refl 1; a_high = pow_pos n; so_far = sym (ap length (cells_none n m rows)); small = zero-le }

  module _ {count a : ℕ} (t : Counting n m rows count a) (l : a < 2 ^ n) where
    pub counting_more : (number : ℕ) → number ≤ 128 → number ≡ length (row_cells n m rows a) → Counting n m rows (count + number) (a + 1)
    counting_more number few e = record {
      a_low = omega arith;
      a_high = omega arith;
      so_far = omega (arith, t.so_far, ap length (cells_next n m rows a t.a_low), length-append (cells_below n m rows a) (row_cells n m rows a));
      small = omega (arith, t.small, t.a_low);
    }

    pub counting_same : row_cells n m rows a ≡ [] → Counting n m rows count (a + 1)
    counting_same e = record {
      a_low = omega arith;
      a_high = omega arith;
      so_far =
          omega (arith, t.so_far, ap length (cells_next n m rows a t.a_low), length-append (cells_below n m rows a) (row_cells n m rows a), ap length e);
      small = omega (arith, t.small, t.a_low);
    }

  pub counting_all : {count a : ℕ} → Box n m rows → Counting n m rows count a → 2 ^ n ≤ a → (count ≡ length (largest_cells n m rows)) × (count ≤ 65536)
  counting_all {count} {a} b t h =
      let end : a ≡ 2 ^ n = omega (arith, t.a_high) in
      (t.so_far ∙ ap (λ (k : ℕ). length (cells_below n m rows k)) end ∙ ap length (cells_by_rows n m rows), omega (arith, t.small, b.size, b.small))

-- ---- the loop that writes them
pub record Storing (n m : ℕ) (rows old : List ℕ) (next : ℕ) (list : List ℕ) (a : ℕ) : Type 0 where
  pub a_low : 1 ≤ a
  pub a_high : a ≤ 2 ^ n
  pub stored : Stored 0 old (cells_below n m rows a) next list

module _ {n m : ℕ} {rows old : List ℕ} where
  pub storing_none : Storing n m rows old 0 old 1
  storing_none = record { a_low = le_refl 1; a_high = pow_pos n; stored = rw (cells_none n m rows) (stored_none 0 old) }

  module _ {next : ℕ} {list : List ℕ} {a : ℕ} (t : Storing n m rows old next list a) where
    pub storing_room : a < 2 ^ n → length (largest_cells n m rows) ≤ length old → next + length (row_cells n m rows a) ≤ length list
    storing_room l h = stored_room t.stored (row_cells n m rows a) (omega (arith, cells_room n m rows a (t.a_low, l)))

    pub storing_next : {after : ℕ} {list' : List ℕ} → a < 2 ^ n → after ≡ next + length (row_cells n m rows a) → list' ≡ sets list next (row_cells n m rows a)
        → Storing n m rows old after list' (a + 1)
    storing_next l p q = record {
      a_low = omega arith;
      a_high = omega arith;
      stored = rw (cells_next n m rows a t.a_low) (stored_more t.stored (row_cells n m rows a) p q);
    }

    pub storing_all : 2 ^ n ≤ a → list ≡ sets old 0 (largest_cells n m rows)
    storing_all h =
        let end : a ≡ 2 ^ n = omega (arith, t.a_high) in
        t.stored.stored ∙ ap (λ (k : ℕ). sets old 0 (cells_below n m rows k)) end ∙ ap (sets old 0) (cells_by_rows n m rows)
