-- A test of every member of a list, and the loop that runs it by an index and stops at the first member that fails.
use Prim.Native.Nat.{ℕ, zero, suc, ◌+◌, ◌<◌, ◌≤◌, zero-le, suc-le-suc}
use mathlib.Core.Path.{◌≡◌, refl, sym, ap, ◌∙◌, ap₂}
use mathlib.Core.List.{List, [], ◌∷◌}
use mathlib.Core.Bool.{Bool, true, false, ◌&&◌, and-eq-true_iff}
use native.Mathlib.Nat.{not-suc-le-zero, le_of_suc-le-suc, zero-lt-suc}
use native.Mathlib.Numerals.{add-one}
use native.Mathlib.Omega.{arith}
use lib.ListN.{length, get_or, drop, drop_of_length-le, replicate}
use lib.Seq.{drop-cons}
use lib.Dec.{ltb}
use Rattle.std.specs.List.{list_all}
use Rattle.boolean.specs.Sums.{every}
use borrow.Author.Tests.{ltb-true}

-- two tests
pub both : (a b : Bool) → (a && b) ≡ true → (a ≡ true) × (b ≡ true)
both a b = (and-eq-true_iff a b).0

pub both_true : (a b : Bool) → a ≡ true → b ≡ true → (a && b) ≡ true
both_true a b p q = (and-eq-true_iff a b).1 (p, q)

pub every_is : {A : Type 0} (p : A → Bool) (xs : List A) → every p xs ≡ list_all p xs
unfolding every
every_is p [] = refl
every_is p (x ∷ xs) = ap (λ (t : Bool). p x && t) (every_is p xs)

module _ {A : Type 0} (p : A → Bool) (d : A) where
  pub every_at : (xs : List A) → every p xs ≡ true → (k : ℕ) → k < length xs → p (get_or xs k d) ≡ true
  unfolding every
  every_at [] e k h = absurd (not-suc-le-zero h)
  every_at (x ∷ xs) e zero h = (both (p x) (every p xs) e).0
  every_at (x ∷ xs) e (suc k) h = every_at xs (both (p x) (every p xs) e).1 k (le_of_suc-le-suc h)

  pub every_of : (xs : List A) → ((k : ℕ) → k < length xs → p (get_or xs k d) ≡ true) → every p xs ≡ true
  unfolding every
  every_of [] h = refl
  every_of (x ∷ xs) h = both_true (p x) (every p xs) (h 0 (zero-lt-suc (length xs))) (every_of xs (λ k l. h (suc k) (suc-le-suc l)))

  -- the loop's invariant: the members from the index on have the answer that all of them have
  pub record Rest (xs : List A) (i : ℕ) : Type 0 where
    pub inside : i ≤ length xs
    pub same : every p (drop i xs) ≡ every p xs

  pub rest_all : (xs : List A) → Rest xs 0
  rest_all xs = record { inside = zero-le; same = refl }

  module _ {xs : List A} {i : ℕ} (r : Rest xs i) where
    step : i < length xs → every p (drop i xs) ≡ (p (get_or xs i d) && every p (drop (i + 1) xs))
    unfolding every
    step h = rw (add-one, drop-cons xs i d, every)

    -- a member that passes is passed over
    pub rest_next : i < length xs → p (get_or xs i d) ≡ true → Rest xs (i + 1)
    rest_next h t = record { inside = omega (arith, h); same = sym (rw (step h, t) refl) ∙ r.same }

    -- one that fails makes the answer false
    pub rest_fails : i < length xs → p (get_or xs i d) ≡ false → false ≡ every p xs
    rest_fails h t = sym (rw (step h, t) refl) ∙ r.same

    -- at the end the answer is true
    pub rest_none : length xs ≤ i → true ≡ every p xs
    unfolding every
    rest_none h = sym (rw (drop_of_length-le xs h) refl) ∙ r.same

-- numbers below 1 are zeros; and back
pub zeros_are : (xs : List ℕ) → every (λ x. ltb x 1) xs ≡ true → xs ≡ replicate (length xs) 0
unfolding every
zeros_are [] h = refl
zeros_are (x ∷ xs) h =
    let t = both _ _ h in
    let z : x ≡ 0 = omega (arith, ltb-true x 1 t.0) in
    ap₂ (λ (a : ℕ) (l : List ℕ). a ∷ l) z (zeros_are xs t.1)

pub zeros_true : (n : ℕ) → every (λ x. ltb x 1) (replicate n 0) ≡ true
unfolding every
zeros_true zero = refl
zeros_true (suc n) = zeros_true n
