-- A test of the numbers of a range: of every one of them, and how many pass it.
use mathlib.Core.Path.{◌≡◌, refl, sym, ap, ◌∙◌}
use mathlib.Core.Bool.{Bool, true, false, not}
use Prim.Native.Nat.{ℕ, zero, suc, ◌+◌, ◌<◌, ◌≤◌}
use native.Mathlib.Nat.{le_refl}
use native.Mathlib.Omega.{arith}
use native.Mathlib.Decide.{ℕ_discrete}
use borrow.Author.Tests.{eq-eqb, ne_eqb}
use lib.Dec.{eqb}
use Rattle.boolean.proofs.Counted.{count_no, count_some}
use Rattle.boolean.specs.Sums.{list_from, every, count_below}
use Rattle.boolean.proofs.Every.{both, both_true}

-- every number from i on, k of them
pub every_passes : (p : ℕ → Bool) (i k : ℕ) → ((j : ℕ) → i ≤ j → j < i + k → p j ≡ true) → every p (list_from i k (λ j. j)) ≡ true
unfolding every list_from
every_passes p i zero h = refl
every_passes p i (suc k) h = both_true (p i) _ (h i (le_refl i) (omega arith)) (every_passes p (suc i) k (λ j l m. h j (omega arith) (omega arith)))

pub every_passed : (p : ℕ → Bool) (i k : ℕ) → every p (list_from i k (λ j. j)) ≡ true → (j : ℕ) → i ≤ j → j < i + k → p j ≡ true
unfolding every list_from
every_passed p i zero e j l m = absurd (omega arith)
every_passed p i (suc k) e j l m = pick (ℕ_discrete j i) (λ n. every_passed p (suc i) k (both (p i) _ e).1 j n (omega arith))
  where
    pick : Dec (j ≡ i) → (suc i ≤ j → p j ≡ true) → p j ≡ true
    pick (yes q) rest = ap p q ∙ (both (p i) _ e).0
    pick (no q) rest = rest (omega arith)

-- one that fails
pub every_fails : (p : ℕ → Bool) (i k j : ℕ) → i ≤ j → j < i + k → p j ≡ false → every p (list_from i k (λ j. j)) ≡ false
every_fails p i k j l m e = go (every p (list_from i k (λ j. j))) refl
  where
    go : (t : Bool) → every p (list_from i k (λ j. j)) ≡ t → every p (list_from i k (λ j. j)) ≡ false
    go true q = q ∙ sym (every_passed p i k q j l m) ∙ e
    go false q = q

-- whether some do
pub some_found : (k : ℕ) (p : ℕ → Bool) (x : ℕ) → x < k → p x ≡ true → true ≡ not (eqb (count_below k p) 0)
some_found k p x l e = sym (ap not (ne_eqb (count_below k p) 0 (λ z. let h = count_some k p x l e in omega arith)))

pub none_found : (k : ℕ) (p : ℕ → Bool) → ((x : ℕ) → x < k → p x ≡ false) → false ≡ not (eqb (count_below k p) 0)
none_found k p h = sym (ap not (eq-eqb (count_below k p) 0 (count_no k p h)))

-- a loop that runs the test at 1, 2, .., k and stops at the first that fails: those before j pass
pub record Passing (p : ℕ → Bool) (k j : ℕ) : Type 0 where
  pub low : 1 ≤ j
  pub high : j ≤ k + 1
  pub passed : (t : ℕ) → 1 ≤ t → t < j → p t ≡ true

pub passing_none : (p : ℕ → Bool) (k : ℕ) → Passing p k 1
passing_none p k = record { low = le_refl 1; high = omega arith; passed = λ t l m. absurd (omega arith) }

module _ {p : ℕ → Bool} {k j : ℕ} (d : Passing p k j) where
  pub passing_next : j ≤ k → p j ≡ true → Passing p k (j + 1)
  passing_next h e = record { low = omega (arith, d.low); high = omega arith; passed = λ t l m. pick t l m (ℕ_discrete t j) }
    where
      pick : (t : ℕ) → 1 ≤ t → t < j + 1 → Dec (t ≡ j) → p t ≡ true
      pick t l m (yes q) = ap p q ∙ e
      pick t l m (no q) = d.passed t l (omega arith)

  pub passing_fails : j ≤ k → p j ≡ false → false ≡ every p (list_from 1 k (λ j. j))
  passing_fails h e = sym (every_fails p 1 k j d.low (omega arith) e)

  pub passing_all : k < j → true ≡ every p (list_from 1 k (λ j. j))
  passing_all h = sym (every_passes p 1 k (λ t l m. d.passed t l (omega arith)))
