-- Lists of one member or none; and lists without repetition: how they arise, and that two of them with the same members are as long.
use mathlib.Core.Path.{◌≡◌, refl, sym, ap, ◌∙◌, subst}
use mathlib.Core.Bool.{Bool, true, false, false≢true}
use mathlib.Core.Logic.{◌⊎◌, inl, inr, ⊎_elim}
use mathlib.Core.List.Memᴰ
use mathlib.Core.List.{List, [], ◌∷◌, ◌++◌, map, Memᴰ}
use Prim.Native.Nat.{ℕ, zero, suc, ◌<◌, ◌≤◌, zero-le}
use native.Mathlib.Nat.{le_antisymm, not-suc-le-zero, le_of_suc-le-suc}
use native.Mathlib.Omega.{arith}
use lib.ListN.{length, get_or}
use Rattle.boolean.specs.Sums.{each}
use Rattle.boolean.specs.Selection.{Ascending, SameMembers}
use Rattle.boolean.proofs.Lists.{mem_each}

-- ---- one member where a test passes, and none elsewhere
module _ {A : Type 0} where
  abbrev pub if_kept : Bool → A → List A
  if_kept b x = elim b [ true ↦ x ∷ [] | false ↦ [] ]

  pub mem_if : (b : Bool) (x y : A) → Memᴰ y (if_kept b x) → (b ≡ true) × (y ≡ x)
  mem_if true x y m = (refl, Memᴰ.eq_of_singleton m)
  mem_if false x y m = absurd (Memᴰ.not-nil m)

  pub in_if : (b : Bool) (x : A) → b ≡ true → Memᴰ x (if_kept b x)
  in_if true x e = Memᴰ.head refl
  in_if false x e = absurd (false≢true e)

-- ranks that rise along a list rise along what a rule makes of it
pub ascending_map : {A B : Type 0} (f : A → B) (rank : B → ℕ) (xs : List A) → Ascending (λ x. rank (f x)) xs → Ascending rank (map f xs)
ascending_map f rank [] a = tt
ascending_map {B = B} f rank (x ∷ xs) a =
    (λ y m. let t = Memᴰ.of_map f xs m in subst (λ (z : B). rank (f x) < rank z) t.2 (a.0 t.0 t.1), ascending_map f rank xs a.1)

-- ---- no member twice
abbrev pub Distinct : {A : Type 0} → List A → Type 0
Distinct [] = Unit {0}
Distinct (x ∷ xs) = (Memᴰ x xs → ⊥) × Distinct xs

module _ {A : Type 0} where
  pub distinct_ascending : (rank : A → ℕ) (xs : List A) → Ascending rank xs → Distinct xs
  distinct_ascending rank [] a = tt
  distinct_ascending rank (x ∷ xs) a = (λ m. let h = a.0 x m in omega arith, distinct_ascending rank xs a.1)

  pub distinct_append : (xs ys : List A) → Distinct xs → Distinct ys → ((v : A) → Memᴰ v xs → Memᴰ v ys → ⊥) → Distinct (xs ++ ys)
  distinct_append [] ys p q h = q
  distinct_append (x ∷ xs) ys p q h = (λ m. new (Memᴰ.append_cases xs m), distinct_append xs ys p.1 q (λ v m n. h v (Memᴰ.tail m) n))
    where
      new : Memᴰ x xs ⊎ Memᴰ x ys → ⊥
      new (inl m) = p.0 m
      new (inr n) = h x (Memᴰ.head refl) n

  pub distinct_if : (b : Bool) (x : A) → Distinct (if_kept b x)
  distinct_if true x = (λ m. Memᴰ.not-nil m, tt)
  distinct_if false x = tt

  member_at : (xs : List A) (d : A) (j : ℕ) → j < length xs → Memᴰ (get_or xs j d) xs
  member_at [] d j h = absurd (not-suc-le-zero h)
  member_at (x ∷ xs) d zero h = Memᴰ.head refl
  member_at (x ∷ xs) d (suc j) h = Memᴰ.tail (member_at xs d j (le_of_suc-le-suc h))

  -- no two places hold the same
  pub distinct_at : (xs : List A) (d : A) → Distinct xs → (i j : ℕ) → i < j → j < length xs → get_or xs i d ≡ get_or xs j d → ⊥
  distinct_at [] d p i j l h e = not-suc-le-zero h
  distinct_at (x ∷ xs) d p i zero l h e = not-suc-le-zero l
  distinct_at (x ∷ xs) d p zero (suc j) l h e = p.0 (Memᴰ.cast e (member_at xs d j (le_of_suc-le-suc h)))
  distinct_at (x ∷ xs) d p (suc i) (suc j) l h e = distinct_at xs d p.1 i j (le_of_suc-le-suc l) (le_of_suc-le-suc h) e

  -- one member taken out
  pub record Without (x : A) (ys : List A) : Type 0 where
    pub rest : List A
    pub one_less : length ys ≡ suc (length rest)
    pub others : (v : A) → Memᴰ v ys → (v ≡ x) ⊎ Memᴰ v rest

  without_head : {x y : A} {ys : List A} → x ≡ y → Without x (y ∷ ys)
  without_head {x} {y} {ys} e = record { rest = ys; one_less = refl; others = λ v m. pick (Memᴰ.cases_cons m) }
    where
      pick : {v : A} → (v ≡ y) ⊎ Memᴰ v ys → (v ≡ x) ⊎ Memᴰ v ys
      pick (inl q) = inl (q ∙ sym e)
      pick (inr n) = inr n

  without_tail : {x y : A} {ys : List A} → Without x ys → Without x (y ∷ ys)
  without_tail {x} {y} {ys} t = record { rest = y ∷ t.rest; one_less = ap suc t.one_less; others = λ v m. pick (t.others v) (Memᴰ.cases_cons m) }
    where
      pick : {v : A} → (Memᴰ v ys → (v ≡ x) ⊎ Memᴰ v t.rest) → (v ≡ y) ⊎ Memᴰ v ys → (v ≡ x) ⊎ Memᴰ v (y ∷ t.rest)
      pick h (inl q) = inr (Memᴰ.head q)
      pick h (inr k) = ⊎_elim (λ q. inl q) (λ j. inr (Memᴰ.tail j)) (h k)

  without : {x : A} {ys : List A} → Memᴰ x ys → Without x ys
  without (Memᴰ.head e) = without_head e
  without (Memᴰ.tail n) = without_tail (without n)

  -- distinct members that all stand in another list are no more than it has
  pub distinct_le : (xs ys : List A) → Distinct xs → ((v : A) → Memᴰ v xs → Memᴰ v ys) → length xs ≤ length ys
  distinct_le [] ys p h = zero-le
  distinct_le (x ∷ xs) ys p h =
      let t = without (h x (Memᴰ.head refl)) in
      omega (arith, t.one_less, distinct_le xs t.rest p.1 (λ v m. ⊎_elim (λ e. absurd (p.0 (Memᴰ.cast (sym e) m))) (λ n. n) (t.others v (h v (Memᴰ.tail m)))))

  -- so two lists with the same members, each without repetition, are as long
  pub distinct_same : (xs ys : List A) → Distinct xs → Distinct ys → SameMembers xs ys → length xs ≡ length ys
  distinct_same xs ys p q h = le_antisymm (distinct_le xs ys p (λ v. (h v).0)) (distinct_le ys xs q (λ v. (h v).1))

-- lists without repetition that share no member make one
pub distinct_each : {A B : Type 0} (xs : List A) (f : A → List B) → Distinct xs → ((x : A) → Memᴰ x xs → Distinct (f x))
    → ((x y : A) (v : B) → Memᴰ x xs → Memᴰ y xs → Memᴰ v (f x) → Memᴰ v (f y) → x ≡ y) → Distinct (each xs f)
unfolding each
distinct_each [] f p q h = tt
distinct_each (x ∷ xs) f p q h =
    distinct_append (f x) (each xs f) (q x (Memᴰ.head refl))
    (distinct_each xs f p.1 (λ y m. q y (Memᴰ.tail m)) (λ y z v m n. h y z v (Memᴰ.tail m) (Memᴰ.tail n)))
    (λ v m n. let t = mem_each xs f v n in p.0 (Memᴰ.cast (h x t.0 v (Memᴰ.head refl) (Memᴰ.tail t.1) m t.2) t.1))
