-- The normal form as a list, and the degree that is read from it.
use mathlib.Core.Path.{◌≡◌, refl, sym, ap, ◌∙◌, subst}
use mathlib.Core.Logic.{◌⊎◌, inl, inr}
use mathlib.Core.Bool.{Bool, true, false, cond}
use mathlib.Core.List.{List}
use Prim.Native.Nat.{ℕ, ◌^◌, ◌<◌, ◌≤◌, zero-le}
use borrow.Author.Tests.{eq-eqb, eqb-true}
use lib.Count.{ones, ones-le}
use lib.Dec.{eqb}
use lib.ListN.{length}
use Rattle.boolean.specs.Bits.{dot}
use Rattle.boolean.specs.Sums.{largest_below}
use Rattle.boolean.specs.Functions.{at, coefficient, component, normal_form, degree}
use Rattle.boolean.proofs.Lists.{length_list_below, get_or_list_below, list_below_cong, list_is}
use Rattle.boolean.proofs.Largest.{largest_cong, largest_le, le_largest, largest_reached}
use Rattle.boolean.proofs.NormalForm.{coefficient_cong, coefficient_component, normal_form_involution}

module _ (n : ℕ) (f : ℕ → ℕ) where
  pub length_normal_form : length (normal_form n f) ≡ 2 ^ n
  unfolding normal_form
  length_normal_form = length_list_below (2 ^ n) (λ u. coefficient n f u)

  pub at_normal_form : (u : ℕ) → u < 2 ^ n → at (normal_form n f) u ≡ coefficient n f u
  unfolding normal_form
  at_normal_form u l = get_or_list_below (2 ^ n) (λ u. coefficient n f u) u 0 l

-- the normal form of the normal form is the table again
pub normal_form_twice : (n : ℕ) (table : List ℕ) → length table ≡ 2 ^ n → normal_form n (at (normal_form n (at table))) ≡ table
unfolding normal_form
normal_form_twice n table long =
    list_below_cong (2 ^ n) _ (at table)
    (λ u l. coefficient_cong n (at (normal_form n (at table))) (λ v. coefficient n (at table) v) u (at_normal_form n (at table)) ∙ normal_form_involution n (at table) u l)
    ∙ sym (list_is 0 (2 ^ n) (at table) table long (λ u l. refl))

-- ---- the degree

-- the ones of u count where its coefficient is 1
abbrev pub term : ℕ → ℕ → ℕ
term a u = cond (eqb a 1) (ones u) 0

term_le : (m a u : ℕ) → (a ≡ 1 → ones u ≤ m) → term a u ≤ m
term_le m a u h = go (eqb a 1) refl
  where
    go : (t : Bool) → eqb a 1 ≡ t → cond t (ones u) 0 ≤ m
    go true e = h (eqb-true a 1 e)
    go false e = zero-le

-- the most ones of a number with the coefficient 1: what bounds each bounds it, and it bounds each
pub most_le : (k m : ℕ) (a : ℕ → ℕ) → ((u : ℕ) → u < k → a u ≡ 1 → ones u ≤ m) → largest_below k (λ u. term (a u) u) ≤ m
most_le k m a h = largest_le k m _ (λ u l. term_le m (a u) u (h u l))

pub le_most : (k : ℕ) (a : ℕ → ℕ) (u : ℕ) → u < k → a u ≡ 1 → ones u ≤ largest_below k (λ u. term (a u) u)
le_most k a u l e = subst (λ (t : Bool). cond t (ones u) 0 ≤ largest_below k (λ u. term (a u) u)) (eq-eqb (a u) 1 e) (le_largest k (λ u. term (a u) u) u l)

-- a term that is not 0 has the coefficient 1
term_cases : (a u : ℕ) → (term a u ≡ 0) ⊎ ((a ≡ 1) × (ones u ≡ term a u))
term_cases a u = go (eqb a 1) refl
  where
    go : (t : Bool) → eqb a 1 ≡ t → (cond t (ones u) 0 ≡ 0) ⊎ ((a ≡ 1) × (ones u ≡ cond t (ones u) 0))
    go true e = inr (eqb-true a 1 e, refl)
    go false e = inl refl

-- of a component, read from the words that the normal form of the rows has
pub degree_read : (n : ℕ) (rows : List ℕ) (c : ℕ) (words : List ℕ) → words ≡ normal_form n (at rows)
    → largest_below (length words) (λ u. cond (eqb (dot (at words u) c) 1) (ones u) 0) ≡ degree n (component rows c)
unfolding degree
degree_read n rows c words e =
    ap (λ (k : ℕ). largest_below k (λ u. term (dot (at words u) c) u)) (ap length e ∙ length_normal_form n (at rows))
    ∙ largest_cong (2 ^ n) _ _
    (λ u l. ap (λ (a : ℕ). term a u) (ap (λ (g : List ℕ). dot (at g u) c) e ∙ ap (λ (a : ℕ). dot a c) (at_normal_form n (at rows) u l) ∙ coefficient_component n rows c u))

module _ (n : ℕ) (f : ℕ → ℕ) where
  pub degree_le : degree n f ≤ n
  unfolding degree
  degree_le = most_le (2 ^ n) n (λ u. coefficient n f u) (λ u l e. ones-le n u l)

  -- the ones of each u with coefficient 1
  pub le_degree : (u : ℕ) → u < 2 ^ n → coefficient n f u ≡ 1 → ones u ≤ degree n f
  unfolding degree
  le_degree u l e = le_most (2 ^ n) (λ u. coefficient n f u) u l e

  -- and those of one such u are the degree, where it is not 0
  pub degree_reached : (degree n f ≡ 0) ⊎ ((u : ℕ) × (u < 2 ^ n) × (coefficient n f u ≡ 1) × (ones u ≡ degree n f))
  unfolding degree
  degree_reached = go (largest_reached (2 ^ n) (λ u. term (coefficient n f u) u))
    where
      at_place : (u : ℕ) → u < 2 ^ n → term (coefficient n f u) u ≡ degree n f
          → (term (coefficient n f u) u ≡ 0) ⊎ ((coefficient n f u ≡ 1) × (ones u ≡ term (coefficient n f u) u))
          → (degree n f ≡ 0) ⊎ ((u : ℕ) × (u < 2 ^ n) × (coefficient n f u ≡ 1) × (ones u ≡ degree n f))
      at_place u l e (inl z) = inl (sym e ∙ z)
      at_place u l e (inr t) = inr (u, l, t.0, t.1 ∙ e)

      go : (degree n f ≡ 0) ⊎ ((u : ℕ) × (u < 2 ^ n) × (term (coefficient n f u) u ≡ degree n f))
          → (degree n f ≡ 0) ⊎ ((u : ℕ) × (u < 2 ^ n) × (coefficient n f u ≡ 1) × (ones u ≡ degree n f))
      go (inl z) = inl z
      go (inr t) = at_place t.0 t.1 t.2 (term_cases (coefficient n f t.0) t.0)
