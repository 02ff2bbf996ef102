-- The combinations that were examined: none at the start, all of them at the end, one more with each step; and that a loop which visits
-- them in ascending order finds the first best in the components' order. Assumes nothing.
use Prim.Native.Nat.{ℕ, suc, ◌+◌, ◌-◌, ◌^◌, ◌<◌, ◌≤◌}
use mathlib.Core.Path.{◌≡◌, refl, ap, ◌∙◌}
use mathlib.Core.Bool.{Bool, true, false}
use mathlib.Core.Logic.{◌⊎◌, inl, inr, ⊎_elim, ◌↔◌}
use mathlib.Core.List.{List, [], ◌∷◌, Memᴰ}
use native.Mathlib.Omega.{arith}
use native.Mathlib.Decide.{ℕ_discrete}
use borrow.Author.Tests.{leb-true, le-leb, lt-leb}
use lib.Dec.{leb}
use Rattle.boolean.specs.Sums.{list_from, keep, each}
use Rattle.boolean.specs.Functions.{components, MaskWithin}
use Rattle.boolean.proofs.Components.{in_components, mem_components, ascending_components, whole_within}
use Rattle.boolean.proofs.Kept.{keep_takes, keep_drops, mem_keep, in_keep, ascending_keep}
use Rattle.boolean.proofs.Lists.{mem_list_from, in_list_from, ascending_list_from}
use Rattle.masks.specs.Statements.{Visit}
use Rattle.server.specs.Model.{examined_of}

-- where no member passes none is kept, and where each does all are
keep_none : (p : ℕ → Bool) (xs : List ℕ) → ((x : ℕ) → Memᴰ x xs → p x ≡ false) → keep p xs ≡ []
unfolding keep each
keep_none p [] h = refl
keep_none p (x ∷ xs) h = keep_drops p x xs (h x (Memᴰ.head refl)) ∙ keep_none p xs (λ y m. h y (Memᴰ.tail m))

keep_all : (p : ℕ → Bool) (xs : List ℕ) → ((x : ℕ) → Memᴰ x xs → p x ≡ true) → keep p xs ≡ xs
unfolding keep each
keep_all p [] h = refl
keep_all p (x ∷ xs) h = keep_takes p x xs (h x (Memᴰ.head refl)) ∙ ap (λ (l : List ℕ). x ∷ l) (keep_all p xs (λ y m. h y (Memᴰ.tail m)))

module _ (m : ℕ) where
  pub examined_none : examined_of m 0 ≡ []
  unfolding examined_of
  examined_none = keep_none (λ c. leb c 0) (components m m) (λ c h. lt-leb c 0 (mem_components m m c h).low)

  pub examined_all : examined_of m (2 ^ m - 1) ≡ components m m
  unfolding examined_of
  examined_all =
      keep_all (λ c. leb c (2 ^ m - 1)) (components m m)
      (λ c h. let high = (mem_components m m c h).high in le-leb c (2 ^ m - 1) (omega arith))

  -- they are the combinations 1 to k
  pub examined_has : (k c : ℕ) → 1 ≤ c → c ≤ k → c < 2 ^ m → Memᴰ c (examined_of m k)
  unfolding examined_of
  examined_has k c l h j = in_keep (λ c. leb c k) (components m m) c (in_components m m c (whole_within m c l j)) (le-leb c k h)

  pub was_examined : (k c : ℕ) → Memᴰ c (examined_of m k) → MaskWithin m (2 ^ m) c × (c ≤ k)
  unfolding examined_of
  was_examined k c h = let t = mem_keep (λ c. leb c k) (components m m) c h in (mem_components m m c t.0, leb-true c k t.1)

  -- k + 1 is not among them, and a step adds exactly k + 1
  pub examined_not : (k : ℕ) → Memᴰ (suc k) (examined_of m k) → ⊥
  examined_not k h = omega (arith, (was_examined k (suc k) h).1)

  pub examined_next : (k c : ℕ) → k < 2 ^ m - 1 → Memᴰ c (examined_of m (suc k)) ↔ (Memᴰ c (examined_of m k) ⊎ (c ≡ suc k))
  examined_next k c l = (
    λ h. let t = was_examined (suc k) c h in split t (ℕ_discrete c (suc k)),
    ⊎_elim (λ h. let t = was_examined k c h in examined_has (suc k) c t.0.low (omega (arith, t.1)) t.0.high)
        (λ e. examined_has (suc k) c (omega arith) (omega arith) (omega arith)),
  )
    where
      split : MaskWithin m (2 ^ m) c × (c ≤ suc k) → Dec (c ≡ suc k) → Memᴰ c (examined_of m k) ⊎ (c ≡ suc k)
      split t (yes e) = inr e
      split t (no e) = inl (examined_has k c t.0.low (omega (arith, t.1)) t.0.high)

  -- the code visits them in ascending order
  pub visit_examined : (k : ℕ) → k < 2 ^ m - 1 → Visit m 1 (list_from 1 (suc k) (λ c. c)) (examined_of m (suc k))
  unfolding examined_of list_from
  visit_examined k l = record {
    rest = list_from 2 k (λ c. c);
    starts = refl;
    rises = ascending_list_from (λ c. c) 1 (suc k) (λ c. c) (λ a b p q r. q);
    high = λ c h. below c (mem_list_from 1 (suc k) (λ c. c) c h);
    in_order = ascending_keep (λ c. leb c (suc k)) _ (components m m) (ascending_components m m);
    same = λ c. (
      λ h. let t = mem_list_from 1 (suc k) (λ c. c) c h in examined_has (suc k) c (omega (arith, t.1, t.3)) (omega (arith, t.2, t.3)) (below c t),
      λ h. let t = mem_keep (λ c. leb c (suc k)) (components m m) c h in
          in_list_from 1 (suc k) (λ c. c) c (mem_components m m c t.0).low
          (let few = leb-true c (suc k) t.1 in omega arith),
    );
  }
    where
      below : (c : ℕ) → (j : ℕ) × (1 ≤ j) × (j < 1 + suc k) × (c ≡ j) → c < 2 ^ m
      below c t = omega (arith, t.2, t.3)
