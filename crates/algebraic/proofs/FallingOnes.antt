-- A table of numbers by tests that are computed: the ones of its numbers fall, and every number below 256 stands in it.
use mathlib.Core.Path.{◌≡◌, refl, ap, ◌∙◌, subst}
use mathlib.Core.Logic.{inl, inr, ⊎_elim}
use mathlib.Core.Bool.{Bool, true, false, ◌&&◌, ◌||◌, false≢true}
use mathlib.Core.List.{List, [], ◌∷◌}
use Prim.Native.Nat.{ℕ, zero, suc, ◌<◌, ◌≤◌}
use native.Mathlib.Decide.{dec_lt}
use native.Mathlib.Nat.{le_of_eq, le_of_suc-le-suc, not-suc-le-zero, zero-lt-suc}
use native.Mathlib.Omega.{arith}
use borrow.Author.Tests.{eqb-true, ltb-true}
use lib.Count.{ones}
use lib.Dec.{eqb, ltb}
use lib.ListN.{length}
use Rattle.boolean.specs.Sums.{every, list_below}
use Rattle.boolean.specs.Functions.{at}
use Rattle.boolean.proofs.Every.{both, every_at}
use Rattle.boolean.proofs.Lists.{length_list_below, get_or_list_below}
use Rattle.algebraic.specs.Work.{ByOnes, Fewer}

-- the test that y has fewer ones than x, or as many and is the smaller
abbrev pub is_fewer : (x y : ℕ) → Bool
is_fewer x y = ltb (ones y) (ones x) || (eqb (ones y) (ones x) && ltb y x)

-- each number comes so after the one before it
unfoldable pub falls : List ℕ → Bool
falls [] = true
falls (x ∷ []) = true
falls (x ∷ (y ∷ zs)) = is_fewer x y && falls (y ∷ zs)

-- u stands in the list
unfoldable pub stands : ℕ → List ℕ → Bool
stands u [] = false
stands u (x ∷ xs) = eqb x u || stands u xs

fewer : (x y : ℕ) → is_fewer x y ≡ true → Fewer x y
fewer x y = go (ltb (ones y) (ones x)) (eqb (ones y) (ones x)) (ltb y x) (ltb-true _ _) (eqb-true _ _) (ltb-true _ _)
  where
    go : (a b c : Bool) → (a ≡ true → ones y < ones x) → (b ≡ true → ones y ≡ ones x) → (c ≡ true → y < x) → (a || (b && c)) ≡ true → Fewer x y
    go true b c p q r t = inl (p refl)
    go false true true p q r t = inr (q refl, r refl)
    go false true false p q r t = absurd (false≢true t)
    go false false c p q r t = absurd (false≢true t)

fewer_trans : {x y z : ℕ} → Fewer x y → Fewer y z → Fewer x z
fewer_trans (inl p) (inl q) = inl (omega arith)
fewer_trans (inl p) (inr q) = inl (omega (arith, q.0))
fewer_trans (inr p) (inl q) = inl (omega (arith, p.0))
fewer_trans (inr p) (inr q) = inr (q.0 ∙ p.0, omega (arith, p.1, q.1))

from_first : (x : ℕ) (xs : List ℕ) → falls (x ∷ xs) ≡ true → (j : ℕ) → j < length xs → Fewer x (at xs j)
unfolding falls
from_first x [] t j l = absurd (not-suc-le-zero l)
from_first x (y ∷ zs) t zero l = fewer x y (both (is_fewer x y) (falls (y ∷ zs)) t).0
from_first x (y ∷ zs) t (suc j) l =
    let p = both (is_fewer x y) (falls (y ∷ zs)) t in
    fewer_trans (fewer x y p.0) (from_first y zs p.1 j (le_of_suc-le-suc l))

falls_rest : (x : ℕ) (xs : List ℕ) → falls (x ∷ xs) ≡ true → falls xs ≡ true
unfolding falls
falls_rest x [] t = refl
falls_rest x (y ∷ zs) t = (both (is_fewer x y) (falls (y ∷ zs)) t).1

falling_at : (xs : List ℕ) → falls xs ≡ true → (i j : ℕ) → i < j → j < length xs → Fewer (at xs i) (at xs j)
falling_at [] t i j h l = absurd (not-suc-le-zero l)
falling_at (x ∷ xs) t i zero h l = absurd (not-suc-le-zero h)
falling_at (x ∷ xs) t zero (suc j) h l = from_first x xs t j (le_of_suc-le-suc l)
falling_at (x ∷ xs) t (suc i) (suc j) h l = falling_at xs (falls_rest x xs t) i j (le_of_suc-le-suc h) (le_of_suc-le-suc l)

stands_at : (u : ℕ) (xs : List ℕ) → stands u xs ≡ true → (i : ℕ) × (i < length xs) × (at xs i ≡ u)
unfolding stands
stands_at u [] t = absurd (false≢true t)
stands_at u (x ∷ xs) t = pick (λ r. stands_at u xs r) (eqb x u) refl t
  where
    pick : (stands u xs ≡ true → (i : ℕ) × (i < length xs) × (at xs i ≡ u)) → (b : Bool) → eqb x u ≡ b → (b || stands u xs) ≡ true
        → (i : ℕ) × (i < length (x ∷ xs)) × (at (x ∷ xs) i ≡ u)
    pick rec true e r = (0, zero-lt-suc (length xs), eqb-true x u e)
    pick rec false e r = let s = rec r in (suc s.0, omega (arith, s.1), s.2)

-- the whole test
pub by_ones : (table : List ℕ) → length table ≡ 256 → falls table ≡ true → every (λ u. stands u table) (list_below 256 (λ u. u)) ≡ true → ByOnes table
by_ones table size f s = record {
  all = λ u l.
      let t = stands_at u table
      (subst (λ (v : ℕ). stands v table ≡ true) (get_or_list_below 256 (λ u. u) u 0 l)
      (every_at (λ u. stands u table) 0 (list_below 256 (λ u. u)) s u (omega (arith, length_list_below 256 (λ (u : ℕ). u))))) in
      (t.0, omega (arith, t.1), t.2);
  falling = λ i j h l. falling_at table f i j h (omega arith);
}

-- so the ones fall
pub ones_fall : {table : List ℕ} → ByOnes table → (i j : ℕ) → i ≤ j → j < 256 → ones (at table j) ≤ ones (at table i)
ones_fall {table} b i j h l = pick (dec_lt i j)
  where
    pick : Dec (i < j) → ones (at table j) ≤ ones (at table i)
    pick (yes k) = ⊎_elim (λ t. omega arith) (λ t. omega (arith, t.0)) (b.falling i j k l)
    pick (no k) = le_of_eq (ap (λ (z : ℕ). ones (at table z)) (let z : j ≡ i = omega arith in z))
