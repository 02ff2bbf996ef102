-- Autocorrelation, dynamic distance, and completeness.
use Rattle.std.specs.Prelude.{ℕ, ◌-◌, ◌^◌, Bool, not, List, [], ◌∷◌, eqb, leb, pos, ◌-ℤ◌, nat_abs}
use Rattle.std.specs.Int.Count.{ones}
use Rattle.boolean.specs.Sums.{list_from, each, keep, every}
use Rattle.boolean.specs.Functions.{autocorrelation, changes, component, components, column}
use Rattle.boolean.specs.Selection.{Candidate, higher, first_largest}
use Rattle.masks.specs.Parts.{components_between, best_between}

-- the nonzero input changes, in ascending order: 1, 2, .., 2^n − 1
unfoldable pub shifts : ℕ → List ℕ
unfolding list_from
shifts n = list_from 1 (2 ^ n - 1) (λ s. s)

-- those of a list of changes that have at most k ones
unfoldable pub at_most : (k : ℕ) (changes : List ℕ) → List ℕ
unfolding keep
at_most k changes = keep (λ v. leb (ones v) k) changes

-- a component c and a change s with their figure
abbrev pub change : (figure : ℕ → ℕ → ℕ) (c s : ℕ) → Candidate
change figure c s = record { figure = figure c s; witness = c ∷ s ∷ [] }

-- the changes of at most j inputs of one component, in ascending s
unfoldable pub changes_of : (n j : ℕ) (figure : ℕ → ℕ → ℕ) (c : ℕ) → List Candidate
unfolding each at_most shifts
changes_of n j figure c = each (at_most j (shifts n)) (λ s. change figure c s ∷ [])

-- a figure for each component of at most i outputs and each change of at most j inputs, first in the components' order, then in that of
-- the changes
unfoldable pub measured : (n m i j : ℕ) (figure : ℕ → ℕ → ℕ) → List Candidate
unfolding each components changes_of
measured n m i j figure = each (components m i) (λ c. changes_of n j figure c)

-- the same over the components whose masks lie from `low` to `high`
unfoldable pub measured_between : (n m i j low high : ℕ) (figure : ℕ → ℕ → ℕ) → List Candidate
unfolding each components_between changes_of
measured_between n m i j low high figure = each (components_between m i low high) (λ c. changes_of n j figure c)

-- |r(s)| of component c
abbrev pub correlated : (n : ℕ) (rows : List ℕ) (c s : ℕ) → ℕ
correlated n rows c s = nat_abs (autocorrelation n (component rows c) s)

-- the box's autocorrelation: the first largest |r(s)| over the components within the limit i and all s from 1. (None below 2^n has more
-- than n ones.)
unfoldable pub box_autocorrelation : (n m : ℕ) (rows : List ℕ) (i : ℕ) → Candidate
unfolding first_largest measured
box_autocorrelation n m rows i = first_largest (measured n m i n (λ c s. correlated n rows c s))

-- over the components whose masks lie from `low` to `high`, as a reply gives it: no figure where none within the limit lies there
unfoldable pub autocorrelation_between : (n m : ℕ) (rows : List ℕ) (i low high : ℕ) → List ℕ
unfolding best_between changes_of
autocorrelation_between n m rows i low high = best_between higher m i low high (changes_of n n (λ c s. correlated n rows c s))

-- |2^(n−1) − the count of x where f changes under d|: twice document 001's figure, which is a half at n = 1
unfoldable pub imbalance : (n : ℕ) (f : ℕ → ℕ) (d : ℕ) → ℕ
unfolding changes
imbalance n f d = nat_abs (pos (2 ^ (n - 1)) -ℤ pos (changes n f d))

-- the dynamic distance of order (i, j): the first largest over components of at most i ones and changes of 1 to j ones
unfoldable pub dynamic_distance : (n m : ℕ) (rows : List ℕ) (i j : ℕ) → Candidate
unfolding first_largest measured imbalance
dynamic_distance n m rows i j = first_largest (measured n m i j (λ c d. imbalance n (component rows c) d))

-- over the components whose masks lie from `low` to `high`, as a reply gives it
unfoldable pub distance_between : (n m : ℕ) (rows : List ℕ) (i j low high : ℕ) → List ℕ
unfolding best_between changes_of imbalance
distance_between n m rows i j low high = best_between higher m i low high (changes_of n j (λ c d. imbalance n (component rows c) d))

-- complete: every input bit changes every column at some x
unfoldable pub complete : (n m : ℕ) (rows : List ℕ) → Bool
unfolding every list_from changes column
complete n m rows =
    every (λ k. every (λ j. not (eqb (changes n (column rows j) (2 ^ (k - 1))) 0)) (list_from 1 m (λ j. j))) (list_from 1 n (λ k. k))
