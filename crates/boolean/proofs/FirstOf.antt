-- The first member that passes a test, of two lists one after the other; and the loop that asks a rule for each index. Assumes nothing.
use mathlib.Core.Path.{◌≡◌, refl, sym, ap, ap₂, ◌∙◌, subst}
use mathlib.Core.Bool.{Bool, true, false}
use mathlib.Core.List.Memᴰ
use mathlib.Core.List.{List, [], ◌∷◌, ◌++◌, Memᴰ}
use Prim.Native.Nat.{ℕ, zero, suc, ◌+◌, ◌-◌, ◌<◌, ◌≤◌}
use native.Mathlib.Omega.{arith}
use Rattle.boolean.specs.Sums.{each, list_from, first_of}
use Rattle.boolean.specs.Selection.{FirstIn, here, there}
use Rattle.boolean.proofs.Selection.{of_cons}

module _ {A : Type 0} (p : A → Bool) where
  pub first_takes : (x : A) (xs : List A) → p x ≡ true → first_of p (x ∷ xs) ≡ x ∷ []
  unfolding first_of
  first_takes x xs e = rw (e, first_of)

  pub first_skips : (x : A) (xs : List A) → p x ≡ false → first_of p (x ∷ xs) ≡ first_of p xs
  unfolding first_of
  first_skips x xs e = rw (e, first_of)

  -- two lists, one after the other
  pub first_here : (xs ys : List A) (r : A) → first_of p xs ≡ r ∷ [] → first_of p (xs ++ ys) ≡ r ∷ []
  unfolding first_of
  first_here [] ys r e = cc
  first_here (x ∷ xs) ys r e = go (p x) refl (λ h. first_here xs ys r h)
    where
      go : (t : Bool) → p x ≡ t → (first_of p xs ≡ r ∷ [] → first_of p (xs ++ ys) ≡ r ∷ []) → first_of p (x ∷ (xs ++ ys)) ≡ r ∷ []
      go true q rec = first_takes x (xs ++ ys) q ∙ sym (first_takes x xs q) ∙ e
      go false q rec = first_skips x (xs ++ ys) q ∙ rec (sym (first_skips x xs q) ∙ e)

  pub first_later : (xs ys : List A) → first_of p xs ≡ [] → first_of p (xs ++ ys) ≡ first_of p ys
  unfolding first_of
  first_later [] ys e = refl
  first_later (x ∷ xs) ys e = go (p x) refl (λ h. first_later xs ys h)
    where
      go : (t : Bool) → p x ≡ t → (first_of p xs ≡ [] → first_of p (xs ++ ys) ≡ first_of p ys) → first_of p (x ∷ (xs ++ ys)) ≡ first_of p ys
      go true q rec = absurd (let z : ◌≡◌ {A = List A} (x ∷ []) [] = sym (first_takes x xs q) ∙ e in let k : ◌≡◌ {A = ℕ} 0 1 = cc in omega arith)
      go false q rec = first_skips x (xs ++ ys) q ∙ rec (sym (first_skips x xs q) ∙ e)

  -- what it is: none exactly where no member passes; else the first that does
  pub first_none : (xs : List A) → ((x : A) → Memᴰ x xs → p x ≡ false) → first_of p xs ≡ []
  unfolding first_of
  first_none [] h = refl
  first_none (x ∷ xs) h = first_skips x xs (h x (Memᴰ.head refl)) ∙ first_none xs (λ y m. h y (Memᴰ.tail m))

  pub none_first : (xs : List A) → first_of p xs ≡ [] → (x : A) → Memᴰ x xs → p x ≡ false
  unfolding first_of
  none_first [] e x m = absurd (Memᴰ.not-nil m)
  none_first (y ∷ xs) e x m = go (p y) refl (λ h k. none_first xs h x k)
    where
      go : (t : Bool) → p y ≡ t → (first_of p xs ≡ [] → Memᴰ x xs → p x ≡ false) → p x ≡ false
      go true q rec = absurd (let z : ◌≡◌ {A = List A} (y ∷ []) [] = sym (first_takes y xs q) ∙ e in let k : ◌≡◌ {A = ℕ} 0 1 = cc in omega arith)
      go false q rec = of_cons (λ z. p z ≡ false) q (λ n. rec (sym (first_skips y xs q) ∙ e) n) m

  pub first_is : (xs : List A) (r : A) → first_of p xs ≡ r ∷ [] → (p r ≡ true) × FirstIn (λ r x. p x ≡ false) r xs
  unfolding first_of
  first_is [] r e = absurd (let k : ◌≡◌ {A = ℕ} 0 1 = cc in omega arith)
  first_is (x ∷ xs) r e = go (p x) refl (λ h. first_is xs r h)
    where
      go : (t : Bool) → p x ≡ t → (first_of p xs ≡ r ∷ [] → (p r ≡ true) × FirstIn (λ r x. p x ≡ false) r xs) → (p r ≡ true) × FirstIn (λ r x. p x ≡ false) r (x ∷ xs)
      go true q rec =
          let z : x ∷ [] ≡ r ∷ [] = sym (first_takes x xs q) ∙ e in
          let same : x ≡ r = cc in
          subst (λ (y : A). (p y ≡ true) × FirstIn (λ r x. p x ≡ false) y (x ∷ xs)) same (q, here)
      go false q rec = let t = rec (sym (first_skips x xs q) ∙ e) in (t.0, there q t.1)

-- two tests that agree on each of the members find the same one
pub first_cong : {A : Type 0} (p q : A → Bool) (g : ℕ → A) → ((j : ℕ) → p (g j) ≡ q (g j)) → (i k : ℕ) → first_of p (list_from i k g) ≡ first_of q (list_from i k g)
unfolding list_from first_of
first_cong p q g e i zero = refl
first_cong {A} p q g e i (suc k) =
    ap₂ (λ (b : Bool) (l : List A). elim b [ true ↦ g i ∷ [] | false ↦ l ]) (e i) (first_cong p q g e (suc i) k)

-- ---- the loop: from the index on, the members have the answer that all of them have
module _ {A : Type 0} (p : A → Bool) (f : ℕ → List A) (total : List A) where
  pub record Rest (end i : ℕ) : Type 0 where
    pub same : first_of p (each (list_from i (end - i) (λ j. j)) f) ≡ first_of p total

  module _ {end i : ℕ} (r : Rest end i) where
    step : i < end → each (list_from i (end - i) (λ j. j)) f ≡ f i ++ each (list_from (i + 1) (end - (i + 1)) (λ j. j)) f
    unfolding each list_from
    step h =
        let more : end - i ≡ suc (end - (i + 1)) = omega arith in
        let next : suc i ≡ i + 1 = omega arith in
        ap (λ (k : ℕ). each (list_from i k (λ j. j)) f) more ∙ ap (λ (k : ℕ). f i ++ each (list_from k (end - (i + 1)) (λ j. j)) f) next

    pub rest_next : i < end → first_of p (f i) ≡ [] → Rest end (i + 1)
    rest_next h e = record {
      same = sym (first_later p (f i) (each (list_from (i + 1) (end - (i + 1)) (λ j. j)) f) e) ∙ ap (first_of p) (sym (step h)) ∙ r.same;
    }

    pub rest_found : i < end → (x : A) → first_of p (f i) ≡ x ∷ [] → x ∷ [] ≡ first_of p total
    rest_found h x e = sym (first_here p (f i) (each (list_from (i + 1) (end - (i + 1)) (λ j. j)) f) x e) ∙ ap (first_of p) (sym (step h)) ∙ r.same

    pub rest_none : end ≤ i → [] ≡ first_of p total
    unfolding each list_from first_of
    rest_none h = let z : end - i ≡ 0 = omega arith in sym (ap (λ (k : ℕ). first_of p (each (list_from i k (λ j. j)) f)) z) ∙ r.same
