-- What the functions behind the calls on the XOR table ask and leave, but for the running value of a row (`Running`).
use Rattle.std.specs.Prelude.{ℕ, ◌+◌, ◌-◌, ◌*◌, ◌/◌, ◌%◌, ◌^◌, ◌≤◌, ◌<◌, ◌≡◌, true, false, ◌⊎◌}
use Rattle.std.specs.Prelude.{List, [], ◌∷◌, map, eqb, ltb, length, get_or}
use Rattle.std.specs.Int.Bits.{bit_xor}
use Rattle.boolean.specs.Sums.{count_below, list_below, each, keep}
use Rattle.boolean.specs.Functions.{at, Below, occurrences}
use Rattle.boolean.specs.Selection.{Candidate}
use Rattle.refusals.specs.Table.{Box}
use Rattle.sorting.specs.Work.{Sorted}
use Rattle.differential.specs.XorTable.{difference, cell, cells_of, largest_cell, coded}
use Rattle.differential.specs.Running.{Paired, LargestCount, count_with, LargestSoFar, number_in}
use Rattle.differential.specs.declared.FoundCell.{FoundCell}
use Rattle.differential.specs.declared.listing.RowLargest.{RowLargest}

-- the best cell so far, as a candidate
abbrev pub cell_found : FoundCell → Candidate
cell_found f = record { figure = f.count; witness = f.a ∷ f.beta ∷ [] }

-- an accepted box, and an array to work in, as long as its rows
pub record CellsSwept (n m : ℕ) (rows work : List ℕ) : Type 0 where
  pub box : Box n m rows
  pub size : length work ≡ 2 ^ n

-- XOR with a leads from the numbers below the size to numbers below it
abbrev pub XorInside : (size a : ℕ) → Type 0
XorInside size a = (x : ℕ) → x < size → bit_xor x a < size

-- the output differences under a, one for each input
unfoldable pub differences_of : (rows : List ℕ) (a : ℕ) → List ℕ
unfolding list_below difference
differences_of rows a = list_below (length rows) (λ x. difference rows a x)

-- the place of a difference among 4,096 buckets
abbrev pub bucket_of : ℕ → ℕ
bucket_of v = v % 4096

-- 4,096 buckets that are free for the rows from a on: what they hold is below every number of such a row
pub record FreeFrom (a : ℕ) (buckets : List ℕ) : Type 0 where
  pub size : length buckets ≡ 4096
  pub free : (bucket : ℕ) → bucket < 4096 → at buckets bucket < number_in a 0

-- a bucket holds, under the row's number, the standing after `rises` rises of a difference that belongs there and has come: its key
pub record Bucket (a : ℕ) (differences : List ℕ) (rises bucket content : ℕ) : Type 0 where
  pub key : ℕ
  pub small : key < 2 ^ 32
  pub here : bucket_of key ≡ bucket
  pub came : 0 < occurrences differences rises key
  pub is : content ≡ number_in a (count_with (occurrences differences rises key) key)

-- So does every bucket that is not free for the row of a. The bucket of each difference that has come is not; which of those that share a
-- bucket has it is open.
pub record Buckets (a : ℕ) (differences : List ℕ) (rises : ℕ) (buckets : List ℕ) : Type 0 where
  pub size : length buckets ≡ 4096
  pub held : (bucket : ℕ) → bucket < 4096 → number_in a 0 ≤ at buckets bucket → Bucket a differences rises bucket (at buckets bucket)
  pub taken : (x : ℕ) → x < rises → number_in a 0 ≤ at buckets (bucket_of (at differences x))

-- each difference below the size has a bucket of its own, which holds its standing after `rises` rises
pub record OwnBuckets (size : ℕ) (differences : List ℕ) (rises : ℕ) (buckets : List ℕ) : Type 0 where
  pub few : size ≤ 256
  pub long : length buckets ≡ size
  pub inside : Below size differences
  pub held : (v : ℕ) → v < size → at buckets v ≡ count_with (occurrences differences rises v) v

-- r is the row's largest cell with its smallest β, found from the differences of its pairs, and is above the best cell before
pub record RowAbove (a : ℕ) (pairs : List ℕ) (found r : Candidate) : Type 0 where
  pub largest : ℕ
  pub β : ℕ
  pub is : r ≡ record { figure = 2 * largest; witness = a ∷ β ∷ [] }
  pub above : found.figure < 2 * largest
  pub of_row : LargestCount (λ v. occurrences pairs (length pairs) v) largest β

-- the best cell after the row of a: the one before, where the row has none above it, or the row's largest
abbrev pub AfterRow : (a : ℕ) (pairs : List ℕ) (found r : Candidate) → Type 0
AfterRow a pairs found r =
    ((r ≡ found) × ((β : ℕ) → 2 * occurrences pairs (length pairs) β ≤ found.figure)) ⊎ RowAbove a pairs found r

-- the best cell after the row of a, from the row's largest standing alone: the cell that this has, where it counts more than the best
-- before, and else that one. A pair stands for two inputs.
unfoldable pub after_standing : (a best : ℕ) (found : Candidate) → Candidate
after_standing a best found =
    elim (ltb found.figure (2 * (best / 2 ^ 32)))
    [ true ↦ record { figure = 2 * (best / 2 ^ 32); witness = a ∷ (2 ^ 32 - 1 - best % 2 ^ 32) ∷ [] } | false ↦ found ]

-- how many values have the largest count, once the count of one has risen: r is 1 where it is above the largest before, one more where it
-- is as large, and as before where it is smaller
pub record CellsAfter (before count cells r : ℕ) : Type 0 where
  pub above : before < count → r ≡ 1
  pub equal : before ≡ count → r ≡ cells + 1
  pub under : count < before → r ≡ cells

-- how many β below the size have this count after `rises` rises
unfoldable pub reaching : (size : ℕ) (differences : List ℕ) (rises count : ℕ) → ℕ
unfolding count_below occurrences
reaching size differences rises count = count_below size (λ v. eqb (occurrences differences rises v) count)

-- the running value after `rises` rises, and how many β have its count, below any size that the differences are below
pub record RunningCells (differences : List ℕ) (rises value cells : ℕ) : Type 0 where
  pub running : LargestSoFar differences rises value
  pub few : cells ≤ rises
  pub number : (size : ℕ) → Below size differences → 0 < rises → cells ≡ reaching size differences rises running.largest

-- a is the number of a row
abbrev pub IsRow : (n a : ℕ) → Type 0
IsRow n a = (1 ≤ a) × (a < 2 ^ n)

-- what is known of a row that was measured: its largest count, among the pairs, with the smallest β that has it; and how many β have it
pub record RowMeasured (n m : ℕ) (rows : List ℕ) (a value number : ℕ) : Type 0 where
  pub largest : ℕ
  pub β : ℕ
  pub is : value ≡ count_with largest β
  pub below : β < 2 ^ m
  pub most : (v : ℕ) → cell n rows a v ≤ 2 * largest
  pub reached : cell n rows a β ≡ 2 * largest
  pub smallest : (v : ℕ) → v < β → cell n rows a v < 2 * largest
  pub few : number ≤ 128
  pub counted : number ≡ count_below (2 ^ m) (λ v. eqb (cell n rows a v) (2 * largest))

-- the entry a of what was measured, and a standing of 0 past the end
abbrev pub measured_at : (measured : List RowLargest) (a : ℕ) → RowLargest
measured_at measured a = get_or measured a (record { standing = 0; cells = 0 })

-- the entry a of an array has that of the row of a
abbrev pub RowsMeasured : (n m : ℕ) (rows : List ℕ) (measured : List RowLargest) → Type 0
RowsMeasured n m rows measured =
    (a : ℕ) → IsRow n a → RowMeasured n m rows a (measured_at measured a).standing (measured_at measured a).cells

-- the cells of the row of a that reach the largest count of the box, in ascending β
unfoldable pub row_cells : (n m : ℕ) (rows : List ℕ) (a : ℕ) → List ℕ
unfolding keep cells_of largest_cell
row_cells n m rows a = map coded (keep (λ c. eqb c.figure (largest_cell n m rows).figure) (cells_of n m rows a))

-- the pairs of the row of a, put in ascending order
pub record PairsInOrder (rows : List ℕ) (a : ℕ) (pairs : List ℕ) : Type 0 where
  pub written : List ℕ
  pub paired : Paired rows a written
  pub sorted : Sorted written pairs

-- of values in order, the cell of the run that starts at y, if `largest` of them from there on are the same
unfoldable pub run_at : (largest a : ℕ) (values : List ℕ) (y : ℕ) → List ℕ
run_at largest a values y =
    elim (eqb (at values y) (at values (y + (largest - 1)))) [ true ↦ (a * 2 ^ 32 + at values y) ∷ [] | false ↦ [] ]

-- the cells of all runs
unfoldable pub runs : (largest a : ℕ) (values : List ℕ) → List ℕ
unfolding each list_below run_at
runs largest a values = each (list_below (length values + 1 - largest) (λ y. y)) (λ y. run_at largest a values y)
