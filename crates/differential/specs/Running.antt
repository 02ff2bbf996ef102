-- Document 02 §5: "keep it as a running value while the counts rise, instead of sweeping them at the end. Show that after each rise it is
-- the largest count so far, and its β the smallest that has it." `LargestSoFar` is that sentence, and the contract of `rise` says it of the
-- code's own running value, at each rise.
use Rattle.std.specs.Prelude.{ℕ, zero, suc, ◌+◌, ◌-◌, ◌*◌, ◌/◌, ◌^◌, ◌≤◌, ◌<◌, ◌≡◌, List, max, length}
use Rattle.std.specs.Int.Bits.{bit_and}
use Rattle.boolean.specs.Sums.{list_below}
use Rattle.boolean.specs.Functions.{at, occurrences}
use Rattle.differential.specs.XorTable.{difference}

-- ---- What is counted: the output differences in the row of a. The inputs x and x XOR a have the same one and raise the same cell, so the
-- row is counted by pairs, and a rise is that of a pair.

-- top is the highest bit of a, as a power of two
pub record HighestBit (a top : ℕ) : Type 0 where
  pub place : ℕ
  pub power : top ≡ 2 ^ place
  pub low : top ≤ a
  pub high : a < 2 * top

-- the y-th of the inputs that do not have the bit top: a 0 is put into y at its place
unfoldable pub lower_input : (top y : ℕ) → ℕ
lower_input top y = 2 * y - bit_and y (top - 1)

-- the output differences under a of the inputs that do not have the bit top
unfoldable pub pair_differences : (rows : List ℕ) (a top : ℕ) → List ℕ
unfolding list_below difference lower_input
pair_differences rows a top = list_below (length rows / 2) (λ y. difference rows a (lower_input top y))

-- one output difference for each pair of inputs x and x XOR a: of the two, that of the one without the highest bit of a
pub record Paired (rows : List ℕ) (a : ℕ) (pairs : List ℕ) : Type 0 where
  pub top : ℕ
  pub highest : HighestBit a top
  pub held : pairs ≡ pair_differences rows a top

-- ---- The running value. After `rises` rises the count of β is `occurrences differences rises β`: how many of the first `rises`
-- differences are β.

-- of counts, one for each β: the largest, and the smallest β that has it
pub record LargestCount (count : ℕ → ℕ) (largest β : ℕ) : Type 0 where
  pub most : (v : ℕ) → count v ≤ largest
  pub reached : count β ≡ largest
  pub smallest : (v : ℕ) → v < β → count v < largest

-- a count and its β as one number: the larger number has the larger count, and of equal counts the smaller β
abbrev pub count_with : (count β : ℕ) → ℕ
count_with count β = count * 2 ^ 32 + (2 ^ 32 - 1 - β)

-- After `rises` rises the running value is the largest count so far, and its β the smallest that has it.
pub record LargestSoFar (differences : List ℕ) (rises running : ℕ) : Type 0 where
  pub largest : ℕ
  pub β : ℕ
  pub is : running ≡ count_with largest β
  pub small : β < 2 ^ 32
  pub so_far : LargestCount (λ v. occurrences differences rises v) largest β

-- ---- The rows one after the other.

-- a standing in the row of a, as one number: every number of a row is above those of the rows before
abbrev pub number_in : (a value : ℕ) → ℕ
number_in a value = a * 2 ^ 40 + value

-- a number of the row of a, whose standing is as said
pub record InRow (a : ℕ) (said : ℕ → Type 0) (number : ℕ) : Type 0 where
  pub value : ℕ
  pub is : number ≡ number_in a value
  pub holds : said value

-- ---- One rise.

-- the standing of the difference at y, once its count has risen by it
abbrev pub risen_at : (differences : List ℕ) (y : ℕ) → ℕ
risen_at differences y = count_with (occurrences differences (y + 1) (at differences y)) (at differences y)

-- the higher of two numbers
abbrev pub higher_of : (x y : ℕ) → ℕ
higher_of x y = max x y

-- The running value after a number of rises: it starts from the count 0 with β = 0, and at each rise the standing of the difference whose
-- count has risen takes its place, if that is above it.
unfoldable pub running_after : (differences : List ℕ) (rises : ℕ) → ℕ
running_after differences zero = count_with 0 0
running_after differences (suc y) = higher_of (running_after differences y) (risen_at differences y)
