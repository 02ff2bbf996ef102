-- What the functions behind the call for all nearest pairs ask and leave; nobody need believe it.
use Rattle.std.specs.Prelude.{ℕ, ◌-◌, ◌^◌, ◌≤◌, ◌<◌, ◌≡◌, true, false, List, [], ◌∷◌, map, eqb, ℤ, nat_abs, length}
use Rattle.std.specs.Int.Count.{ones}
use Rattle.boolean.specs.Sums.{list_from, list_below, each, keep}
use Rattle.boolean.specs.Functions.{value_at, sign_bit, components}
use Rattle.refusals.specs.Table.{Box}
use Rattle.linear.specs.Nonlinearity.{pairs_of, nonlinearity}
use Rattle.linear.specs.Lent.{PairsSwept}
use Rattle.nearest.specs.NearestPairs.{code, coded_pair}
use Rattle.nearest.specs.declared.Sought.{Sought}

-- r is the least number above c with as many ones as c
pub record NextOfOnes (c r : ℕ) : Type 0 where
  pub above : c < r
  pub same : ones r ≡ ones c
  pub between : (x : ℕ) → c < x → x < r → ones x ≡ ones c → ⊥

-- the masks of k ones below the end, in ascending order
unfoldable pub masks_with_ones : (k end : ℕ) → List ℕ
unfolding keep list_from
masks_with_ones k end = keep (λ c. eqb (ones c) k) (list_from 1 (end - 1) (λ c. c))

-- the numbers of the pairs of component c that differ at d inputs, in ascending w, then b
unfoldable pub pairs_at : (n : ℕ) (rows : List ℕ) (d c : ℕ) → List ℕ
unfolding keep pairs_of
pairs_at n rows d c = map coded_pair (keep (λ p. eqb p.figure d) (pairs_of n rows c))

-- those of every component whose mask has k ones, and of every component within the limit
abbrev pub pairs_of_ones : (sought : Sought) (rows : List ℕ) (k : ℕ) → List ℕ
pairs_of_ones sought rows k = each (masks_with_ones k (2 ^ sought.m)) (λ c. pairs_at sought.n rows sought.d c)

abbrev pub pairs_of_all : (sought : Sought) (rows : List ℕ) → List ℕ
pairs_of_all sought rows = each (components sought.m sought.i) (λ c. pairs_at sought.n rows sought.d c)

-- where the value at w has this magnitude, the number of the pair of c and w whose constant is the value's sign, and no number elsewhere
unfoldable pub pair_number_at : (c size w : ℕ) (value : ℤ) → List ℕ
unfolding sign_bit
pair_number_at c size w value = elim (eqb (nat_abs value) size) [ true ↦ code c w (sign_bit value) ∷ [] | false ↦ [] ]

-- the numbers of the pairs of c with every w, where the values have this magnitude
unfoldable pub pair_numbers : (c size : ℕ) (values : List ℤ) → List ℕ
unfolding each list_below pair_number_at
pair_numbers c size values = each (list_below (length values) (λ w. w)) (λ w. pair_number_at c size w (value_at values w))

-- an accepted box, a limit of it, and its nonlinearity within the limit
pub record NonlinearityKnown (n m : ℕ) (rows : List ℕ) (i d : ℕ) : Type 0 where
  pub box : Box n m rows
  pub i_low : 1 ≤ i
  pub i_high : i ≤ m
  pub least : d ≡ (nonlinearity n m rows i).figure

-- the same of what is listed, and three arrays to work in, as long as the box's rows
pub record ListLent (sought : Sought) (rows table : List ℕ) (work values : List ℤ) : Type 0 where
  pub known : NonlinearityKnown sought.n sought.m rows sought.i sought.d
  pub arrays : PairsSwept sought.n sought.m rows table work
  pub values_size : length values ≡ 2 ^ sought.n
