-- What the theorems beside the contracts say; no contract needs it.
use Rattle.std.specs.Prelude.{ℕ, ◌+◌, ◌*◌, ◌^◌, ◌<◌, ◌≤◌, ◌≡◌, ◌⊎◌, List, [], ◌∷◌, eqb}
use Rattle.std.specs.Int.Bits.{bit_xor}
use Rattle.boolean.specs.Sums.{count_below}
use Rattle.boolean.specs.Functions.{at}
use Rattle.boolean.specs.Selection.{Candidate}
use Rattle.refusals.specs.Table.{figures}
use Rattle.differential.specs.XorTable.{difference, cell}
use Rattle.differential.specs.Calls.{largest_cell_reply}
use Rattle.differential.specs.Running.{lower_input}

-- a and β are a cell of a box of n inputs and m outputs
pub record IsCell (n m a β : ℕ) : Type 0 where
  pub a_low : 1 ≤ a
  pub a_high : a < 2 ^ n
  pub β_high : β < 2 ^ m

-- (a', β') comes before (a, β): by a, then β
abbrev pub CellBefore : (a' β' a β : ℕ) → Type 0
CellBefore a' β' a β = (a' < a) ⊎ ((a' ≡ a) × (β' < β))

-- what is reported of an accepted box: the largest cell d of the XOR table, the most inputs x with S(x) XOR S(x XOR a) = β, and the first
-- cell (a, β) that has it
pub record XorReported (n m : ℕ) (rows : List ℕ) : Type 0 where
  pub d : ℕ
  pub a : ℕ
  pub β : ℕ
  pub reply : largest_cell_reply n m rows ≡ figures (d ∷ a ∷ β ∷ [])
  pub largest : (a' β' : ℕ) → IsCell n m a' β' → cell n rows a' β' ≤ d
  pub member : IsCell n m a β
  pub reached : cell n rows a β ≡ d
  pub before : (a' β' : ℕ) → IsCell n m a' β' → CellBefore a' β' a β → cell n rows a' β' < d

-- an entry of the list of cells: a × 2^32 + β of a cell that counts d
pub record CellCoded (n m : ℕ) (rows : List ℕ) (d v : ℕ) : Type 0 where
  pub a : ℕ
  pub β : ℕ
  pub member : IsCell n m a β
  pub reached : cell n rows a β ≡ d
  pub is : v ≡ a * 2 ^ 32 + β

-- a cell as a candidate: its count, with a and β
abbrev pub cell_candidate : (n : ℕ) (rows : List ℕ) (a β : ℕ) → Candidate
cell_candidate n rows a β = record { figure = cell n rows a β; witness = a ∷ β ∷ [] }

-- a cell's number in the order by a, then β, where the rows have this size
abbrev pub rank : (size : ℕ) (c : Candidate) → ℕ
rank size c = at c.witness 0 * size + at c.witness 1

-- the table's own count of β under a, over the inputs counted so far: those of the first y pairs, the input of each that does not have the
-- bit top, and its partner x XOR a
unfoldable pub cell_so_far : (rows : List ℕ) (a top y β : ℕ) → ℕ
unfolding count_below difference lower_input
cell_so_far rows a top y β =
    count_below y (λ j. eqb (difference rows a (lower_input top j)) β)
    + count_below y (λ j. eqb (difference rows a (bit_xor (lower_input top j) a)) β)
