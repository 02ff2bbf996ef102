-- What the search for a raising swap goes by, and nobody need believe: tables of nearest pairs, what the functions ask and what they leave.
use Rattle.std.specs.Prelude.{ℕ, suc, ◌^◌, ◌≤◌, ◌<◌, ◌≡◌, cond, List, [], ◌∷◌, eqb, length, get_or, Result, MatchResult}
use Rattle.std.specs.Int.Bits.{bit_xor}
use Rattle.boolean.specs.Bits.{affine}
use Rattle.boolean.specs.Functions.{at, component, distance, swapped, MaskWithin}
use Rattle.boolean.specs.Sums.{first_of}
use Rattle.boolean.specs.Selection.{first_least}
use Rattle.refusals.specs.Table.{Box}
use Rattle.linear.specs.declared.Found.{Found}
use Rattle.linear.specs.Nonlinearity.{pairs_of}
use Rattle.swaps.specs.Swaps.{Swap, figure_of, raises}
use Rattle.swaps.specs.declared.Gathered.{Gathered}
use Rattle.swaps.specs.declared.Job.{Job}
use Rattle.swaps.specs.declared.Raise.{Raise}
use Rattle.swaps.specs.declared.Workspace.{Workspace}

-- Tables of nearest pairs: a swap takes a pair apart where the pair agrees at both inputs and its component has unlike values there, and
-- their entries in its table are 1 and 2.

-- what a table has for a component's value and the affine function's: 0 where they differ, and else 1 plus that value
unfoldable pub entry_of : (value near : ℕ) → ℕ
entry_of value near = cond (eqb value near) (suc value) 0

-- the table of a pair: an entry for each input, and any content past them
abbrev pub TableOf : (rows : List ℕ) (pair : Found) (table : List ℕ) → Type 0
TableOf rows pair table = (x : ℕ) → x < length rows → at table x ≡ entry_of (component rows pair.c x) (affine pair.w pair.b x)

-- two inputs have the entries 1 and 2 in a table
abbrev pub ApartIn : (table : List ℕ) (low high : ℕ) → Type 0
ApartIn table low high = bit_xor (at table low) (at table high) ≡ 3

-- they have in each gathered table
abbrev pub TakesApart : (pairs : Gathered) (low high : ℕ) → Type 0
TakesApart pairs low high = (k : ℕ) → k < pairs.count → ApartIn (get_or pairs.tables k []) low high

-- a pair of a box that differs at `figure` inputs
pub record NearestPair (n m : ℕ) (rows : List ℕ) (figure : ℕ) (pair : Found) : Type 0 where
  pub mask : MaskWithin m (2 ^ m) pair.c
  pub w_high : pair.w < 2 ^ n
  pub b_high : pair.b < 2
  pub differs : distance n (component rows pair.c) pair.w pair.b ≡ figure

-- a table of such a pair
pub record NearestTable (n m : ℕ) (rows : List ℕ) (figure : ℕ) (table : List ℕ) : Type 0 where
  pub pair : Found
  pub nearest : NearestPair n m rows figure pair
  pub entries : TableOf rows pair table

-- so are the first tables, as many as the count
pub record PairsGathered (n m : ℕ) (rows : List ℕ) (figure : ℕ) (pairs : Gathered) : Type 0 where
  pub room : length pairs.tables ≡ 16
  pub few : pairs.count ≤ 16
  pub tables_are : (k : ℕ) → k < pairs.count → NearestTable n m rows figure (get_or pairs.tables k [])

-- an accepted box of at most eight outputs, its nonlinearity, and tables of pairs that reach it
pub record Searching (rows : List ℕ) (job : Job) : Type 0 where
  pub box : Box job.n job.m rows
  pub few : job.m ≤ 8
  pub figure_is : job.figure ≡ figure_of job.n job.m rows
  pub gathered : PairsGathered job.n job.m rows job.figure job.pairs

-- the nonlinearity, where that is above a count; or else the mask of a component with a pair of that count or less
abbrev pub Tried : (n m : ℕ) (rows : List ℕ) (count : ℕ) (r : Result ℕ ℕ) → Type 0
Tried n m rows count r =
    MatchResult r (λ figure. (figure ≡ figure_of n m rows) × (count < figure))
    (λ by. MaskWithin m (2 ^ m) by × ((first_least (pairs_of n rows by)).figure ≤ count))

-- the first of some swaps that raises the nonlinearity, with the new figure
pub record RaiseIn (n m : ℕ) (rows : List ℕ) (list : List Swap) (raise : Raise) : Type 0 where
  pub first : first_of (raises n m rows) list ≡ record { low = raise.low; high = raise.high } ∷ []
  pub figure_is : raise.figure ≡ figure_of n m (swapped rows raise.low raise.high)

-- none of them does, and the mask of a component, to try it first next time
pub record NoneIn (n m : ℕ) (rows : List ℕ) (list : List Swap) (hint : ℕ) : Type 0 where
  pub none : first_of (raises n m rows) list ≡ []
  pub hint_is : MaskWithin m (2 ^ m) hint

-- what a try of the swap of two inputs gives, which may be one of some swaps, or not: the new figure, or the mask
abbrev pub Passed : (n m : ℕ) (rows : List ℕ) (list : List Swap) (low high : ℕ) (r : Result ℕ ℕ) → Type 0
Passed n m rows list low high r =
    MatchResult r (λ figure. RaiseIn n m rows list (record { low = low; high = high; figure = figure })) (NoneIn n m rows list)

-- what a search of some swaps gives: the first that raises the nonlinearity, or the mask
abbrev pub SearchedIn : (n m : ℕ) (rows : List ℕ) (list : List Swap) (r : Result Raise ℕ) → Type 0
SearchedIn n m rows list r = MatchResult r (RaiseIn n m rows list) (NoneIn n m rows list)

-- What a function leaves in the arrays to work in: any content. (How long they are is their type's to say.)
abbrev pub AnyWork : (left : Workspace) → Type 0
AnyWork left = Unit {0}
