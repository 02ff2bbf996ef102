-- What the functions behind the calls on input changes ask and leave.
use Rattle.std.specs.Prelude.{ℕ, ◌/◌, ◌^◌, ◌≤◌, ◌<◌, ◌≡◌, Bool, not, ◌&&◌, List, [], ◌∷◌, ltb, ℤ, pos, ◌*ℤ◌, nat_abs, length, drop}
use Rattle.boolean.specs.Sums.{list_below}
use Rattle.boolean.specs.Functions.{at, value_at, autocorrelation, component, MaskWithin}
use Rattle.boolean.specs.Selection.{Candidate}
use Rattle.refusals.specs.Table.{Box}
use Rattle.walsh.specs.Magnitudes.{largest_magnitude}
use Rattle.masks.specs.Work.{preferred}
use Rattle.avalanche.specs.declared.FoundChange.{FoundChange}

-- the best so far, as a candidate
abbrev pub change_candidate : FoundChange → Candidate
change_candidate f = record { figure = f.figure; witness = f.c ∷ f.s ∷ [] }

-- the truth table of component c
abbrev pub truth_table : (n : ℕ) (rows : List ℕ) (c : ℕ) → List ℕ
truth_table n rows c = list_below (2 ^ n) (λ x. component rows c x)

-- 2^n times the autocorrelation of component c at each s
unfoldable pub correlations : (n : ℕ) (rows : List ℕ) (c : ℕ) → List ℤ
correlations n rows c = list_below (2 ^ n) (λ s. pos (2 ^ n) *ℤ autocorrelation n (component rows c) s)

-- the correlations of component c, to be compared with the best so far
pub record Compared (n m : ℕ) (rows : List ℕ) (j : ℕ) (found : FoundChange) (c : ℕ) (values : List ℤ) : Type 0 where
  pub box : Box n m rows
  pub j_low : 1 ≤ j
  pub values_are : values ≡ correlations n rows c

-- the largest magnitude at a change within the limit j, and 0 where there is none
pub record LargestWithin (values : List ℤ) (j largest : ℕ) : Type 0 where
  pub bounds : (s : ℕ) → MaskWithin j (length values) s → nat_abs (value_at values s) ≤ largest
  pub reached : 0 < largest → (s : ℕ) × MaskWithin j (length values) s × (nat_abs (value_at values s) ≡ largest)

-- whether the largest magnitude at all changes shows already that component c is no better than the best so far. It is looked at where half
-- of the changes or more are listed.
abbrev pub beaten_at_once : (found : FoundChange) (rows : List ℕ) (listed c : ℕ) (values : List ℤ) → Bool
beaten_at_once found rows listed c values =
    not (ltb listed (length values / 2))
    && not (preferred found.figure (largest_magnitude (drop 1 values) / length rows) c found.c)

-- the first such change that has a magnitude
pub record FirstWithin (values : List ℤ) (j size s : ℕ) : Type 0 where
  pub within : MaskWithin j (length values) s
  pub has : nat_abs (value_at values s) ≡ size
  pub first : (t : ℕ) → t < s → MaskWithin j (length values) t → nat_abs (value_at values t) ≡ size → ⊥

-- the changes within the limit j, in ascending order
pub record Listed (j size : ℕ) (list : List ℕ) : Type 0 where
  pub within : (k : ℕ) → k < length list → MaskWithin j size (at list k)
  pub all : (s : ℕ) → MaskWithin j size s → (k : ℕ) × (k < length list) × (at list k ≡ s)
  pub rises : (h k : ℕ) → h < k → k < length list → at list h < at list k

-- each change of a list has a value
abbrev pub ChangesInside : (values : List ℤ) (list : List ℕ) → Type 0
ChangesInside values list = (k : ℕ) → k < length list → at list k < length values

-- the largest magnitude at a change of a list, and 0 where there is none
pub record LargestListed (values : List ℤ) (list : List ℕ) (largest : ℕ) : Type 0 where
  pub bounds : (k : ℕ) → k < length list → nat_abs (value_at values (at list k)) ≤ largest
  pub reached : 0 < largest → (k : ℕ) × (k < length list) × (nat_abs (value_at values (at list k)) ≡ largest)

-- the first change of a list that has a magnitude
pub record FirstListed (values : List ℤ) (list : List ℕ) (size s : ℕ) : Type 0 where
  pub place : ℕ
  pub inside : place < length list
  pub is : at list place ≡ s
  pub has : nat_abs (value_at values s) ≡ size
  pub first : (k : ℕ) → k < place → nat_abs (value_at values (at list k)) ≡ size → ⊥
