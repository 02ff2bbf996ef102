-- The tests of completeness, by chains over the inputs, the columns and the input bits.
use mathlib.Core.Path.{◌≡◌, refl, sym, ap, ap₂, ◌∙◌, subst}
use mathlib.Core.Bool.{Bool, true, false, not, ◌&&◌}
use mathlib.Core.List.{List}
use Prim.Native.Nat.{ℕ, zero, suc, ◌+◌, ◌-◌, ◌^◌, ◌≤◌, ◌<◌}
use native.Mathlib.Numerals.{add-one}
use Rattle.std.specs.List.{list_any, list_all, range_with_len}
use native.Mathlib.Decide.{ℕ_discrete}
use native.Mathlib.Omega.{arith}
use Rattle.std.proofs.lemmas.Bool.{false≢true}
use lib.Bits.{bit_xor, xor_lt}
use lib.Dec.{eqb}
use lib.ListN.{length}
use Rattle.boolean.specs.Sums.{list_from, every, count_below}
use Rattle.boolean.specs.Functions.{column, changes}
use Rattle.boolean.proofs.Ranges.{some_found, none_found}

-- the test of one input, and of all
abbrev pub differs : List ℕ → ℕ → ℕ → ℕ → Bool
differs rows flip j x = not (eqb (column rows j x) (column rows j (bit_xor x flip)))

abbrev pub alters : ℕ → List ℕ → ℕ → ℕ → Bool
alters n rows flip j = not (eqb (changes n (column rows j) flip) 0)

-- input bit k alters every column
abbrev pub alters_all : ℕ → ℕ → List ℕ → ℕ → Bool
alters_all n m rows k = every (alters n rows (2 ^ (k - 1))) (list_from 1 m (λ j. j))

-- the input with the change is one of the box, as the input is
pub flipped_inside : (n : ℕ) (rows : List ℕ) (flip x : ℕ) → length rows ≡ 2 ^ n → flip < 2 ^ n → x < length rows → bit_xor x flip < length rows
flipped_inside n rows flip x size f l = subst (λ (k : ℕ). bit_xor x flip < k) (sym size) (xor_lt n x flip (subst (λ (k : ℕ). x < k) size l) f)

-- ---- a test of the numbers of a range, by a chain over it
pub every_listed : (p : ℕ → Bool) (i k : ℕ) → list_all p (range_with_len i k) ≡ every p (list_from i k (λ j. j))
unfolding every list_from
every_listed p i zero = refl
every_listed p i (suc k) = ap (λ (t : Bool). p i && t) (rw (add-one i) (every_listed p (suc i) k))

-- the same, where the chain is over the numbers before them
pub every_after : (p q : ℕ → Bool) (i k : ℕ) → ((j : ℕ) → q j ≡ p (suc j)) → list_all q (range_with_len i k) ≡ every p (list_from (suc i) k (λ j. j))
unfolding every list_from
every_after p q i zero h = refl
every_after p q i (suc k) h = ap₂ (λ (s t : Bool). s && t) (h i) (rw (add-one i) (every_after p q (suc i) k h))

one_listed : (p : ℕ → Bool) (i k : ℕ) → list_any p (range_with_len i k) ≡ true → (x : ℕ) × (x < i + k) × (p x ≡ true)
one_listed p i zero e = absurd (false≢true e)
one_listed p i (suc k) e = pick (p i) refl (λ h. one_listed p (i + 1) k h)
  where
    pick : (t : Bool) → p i ≡ t → (list_any p (range_with_len (i + 1) k) ≡ true → (x : ℕ) × (x < i + 1 + k) × (p x ≡ true))
        → (x : ℕ) × (x < i + suc k) × (p x ≡ true)
    pick true q rest = (i, omega arith, q)
    pick false q rest = let t = rest (rw q at e) in (t.0, omega (arith, t.1), t.2)

none_listed : (p : ℕ → Bool) (i k : ℕ) → list_any p (range_with_len i k) ≡ false → (x : ℕ) → i ≤ x → x < i + k → p x ≡ false
none_listed p i zero e x l m = absurd (omega arith)
none_listed p i (suc k) e x l m = pick (p i) refl (ℕ_discrete x i) (λ h n. none_listed p (i + 1) k h x n (omega arith))
  where
    pick : (t : Bool) → p i ≡ t → Dec (x ≡ i) → (list_any p (range_with_len (i + 1) k) ≡ false → i + 1 ≤ x → p x ≡ false) → p x ≡ false
    pick true q d rest = absurd (false≢true (sym (rw q at e)))
    pick false q (yes d) rest = ap p d ∙ q
    pick false q (no d) rest = rest (rw q at e) (omega arith)

-- whether one of the numbers below k passes
pub some_below : (p : ℕ → Bool) (k : ℕ) → list_any p (range_with_len 0 k) ≡ not (eqb (count_below k p) 0)
some_below p k = go (list_any p (range_with_len 0 k)) refl
  where
    go : (t : Bool) → list_any p (range_with_len 0 k) ≡ t → list_any p (range_with_len 0 k) ≡ not (eqb (count_below k p) 0)
    go true e = let t = one_listed p 0 k e in e ∙ some_found k p t.0 (omega (arith, t.1)) t.2
    go false e = e ∙ none_found k p (λ x l. none_listed p 0 k e x (omega arith) (omega arith))
