-- What a rule gives for each member of a list, and what a test keeps of it.
use mathlib.Core.Path.{◌≡◌, refl, sym, ap, ap₂, ◌∙◌, subst}
use mathlib.Core.Bool.{Bool, true, false}
use mathlib.Core.List.Memᴰ
use mathlib.Core.List.{List, [], ◌∷◌, ◌++◌, Memᴰ}
use Prim.Native.Nat.{ℕ, ◌<◌}
use Rattle.boolean.specs.Sums.{each, keep}
use Rattle.boolean.specs.Selection.{Ascending, SameMembers}
use Rattle.boolean.proofs.Lists.{each_append, mem_each, in_each, each_same, ascending_each}

module _ {A B : Type 0} where
  -- rules that are equal on the members give equal lists
  pub each_cong_on : (xs : List A) (f g : A → List B) → ((x : A) → Memᴰ x xs → f x ≡ g x) → each xs f ≡ each xs g
  unfolding each
  each_cong_on [] f g h = refl
  each_cong_on (x ∷ xs) f g h = ap₂ (λ (a b : List B). a ++ b) (h x (Memᴰ.head refl)) (each_cong_on xs f g (λ y m. h y (Memᴰ.tail m)))

  pub each_cong : (xs : List A) (f g : A → List B) → ((x : A) → f x ≡ g x) → each xs f ≡ each xs g
  each_cong xs f g h = each_cong_on xs f g (λ x m. h x)

  -- one rule after another
  pub each_each : {C : Type 0} (xs : List A) (f : A → List B) (g : B → List C) → each (each xs f) g ≡ each xs (λ x. each (f x) g)
  unfolding each
  each_each [] f g = refl
  each_each {C} (x ∷ xs) f g = each_append (f x) (each xs f) g ∙ ap (λ (l : List C). each (f x) g ++ l) (each_each xs f g)

module _ {A : Type 0} (p : A → Bool) where
  abbrev pub kept : A → Bool → List A
  kept x t = elim t [ true ↦ x ∷ [] | false ↦ [] ]

  -- what is kept of two lists
  pub keep_append : (xs ys : List A) → keep p (xs ++ ys) ≡ keep p xs ++ keep p ys
  unfolding keep
  keep_append xs ys = each_append xs ys (λ x. kept x (p x))

  -- a first member that passes, and one that fails
  pub keep_takes : (x : A) (xs : List A) → p x ≡ true → keep p (x ∷ xs) ≡ x ∷ keep p xs
  unfolding keep each
  keep_takes x xs e = ap (λ (t : Bool). kept x t ++ each xs (λ x. kept x (p x))) e

  pub keep_drops : (x : A) (xs : List A) → p x ≡ false → keep p (x ∷ xs) ≡ keep p xs
  unfolding keep each
  keep_drops x xs e = ap (λ (t : Bool). kept x t ++ each xs (λ x. kept x (p x))) e

  -- the members that are kept are those that pass
  mem_kept : (x y : A) (t : Bool) → Memᴰ y (kept x t) → (t ≡ true) × (y ≡ x)
  mem_kept x y true m = (refl, Memᴰ.eq_of_singleton m)
  mem_kept x y false m = absurd (Memᴰ.not-nil m)

  pub mem_keep : (xs : List A) (x : A) → Memᴰ x (keep p xs) → Memᴰ x xs × (p x ≡ true)
  unfolding keep
  mem_keep xs x m =
      let t = mem_each xs (λ x. kept x (p x)) x m in
      let u = mem_kept t.0 x (p t.0) t.2 in
      (subst (λ (z : A). Memᴰ z xs) (sym u.1) t.1, ap p u.1 ∙ u.0)

  pub in_keep : (xs : List A) (x : A) → Memᴰ x xs → p x ≡ true → Memᴰ x (keep p xs)
  unfolding keep
  in_keep xs x m e = in_each xs (λ x. kept x (p x)) x x m (subst (λ (t : Bool). Memᴰ x (kept x t)) (sym e) (Memᴰ.head refl))

  -- lists with the same members keep the same
  pub keep_same : (xs ys : List A) → SameMembers xs ys → SameMembers (keep p xs) (keep p ys)
  unfolding keep
  keep_same xs ys same = each_same xs ys (λ x. kept x (p x)) same

  -- ranks that rise along a list rise along what is kept
  pub ascending_keep : (rank : A → ℕ) (xs : List A) → Ascending rank xs → Ascending rank (keep p xs)
  unfolding keep
  ascending_keep rank xs a =
      ascending_each rank rank xs (λ x. kept x (p x)) a (λ x m. alone x (p x))
      (λ x y m n l u v j k. apart l (mem_kept x u (p x) j).1 (mem_kept y v (p y) k).1)
    where
      alone : (x : A) (t : Bool) → Ascending rank (kept x t)
      alone x true = (λ d m. absurd (Memᴰ.not-nil m), tt)
      alone x false = tt

      apart : {x y u v : A} → rank x < rank y → u ≡ x → v ≡ y → rank u < rank v
      apart l q r = rw (q, r) l
