-- What the theorems beside the contract say; no contract needs it.
use Rattle.std.specs.Prelude.{ℕ, ◌^◌, ◌≤◌, ◌<◌, ◌≡◌, ◌⊎◌}
use mathlib.Core.List.{List, [], ◌∷◌, Memᴰ}
use Rattle.std.specs.Int.Bits.{bit_xor}
use Rattle.std.specs.Int.Count.{ones}
use Rattle.boolean.specs.Functions.{at}
use Rattle.swaps.specs.Swaps.{Swap, figure_of, figure_after}

-- a swap of two unlike rows
pub record IsSwap (n : ℕ) (rows : List ℕ) (s : Swap) : Type 0 where
  pub ordered : s.low < s.high
  pub inside : s.high < 2 ^ n
  pub unlike : at rows s.low ≡ at rows s.high → ⊥

-- in how many bits its rows differ
abbrev pub row_distance : (rows : List ℕ) (s : Swap) → ℕ
row_distance rows s = ones (bit_xor (at rows s.low) (at rows s.high))

-- t comes before s: by the bits in which the rows differ, the lower input, then the higher
abbrev pub SwapBefore : (rows : List ℕ) (t s : Swap) → Type 0
SwapBefore rows t s =
    (row_distance rows t < row_distance rows s)
    ⊎ (((row_distance rows t ≡ row_distance rows s) × (t.low < s.low))
    ⊎ ((row_distance rows t ≡ row_distance rows s) × (t.low ≡ s.low) × (t.high < s.high)))

-- a list stands in that order: each swap comes before all that follow it
abbrev pub InOrder : (rows : List ℕ) (list : List Swap) → Type 0
InOrder rows [] = Unit {0}
InOrder rows (s ∷ list) = ((t : Swap) → Memᴰ t list → SwapBefore rows s t) × InOrder rows list

-- a swap that raises the nonlinearity, before which no swap does
pub record FirstRaising (n m : ℕ) (rows : List ℕ) (s : Swap) : Type 0 where
  pub is_swap : IsSwap n rows s
  pub higher : figure_of n m rows < figure_after n m rows s
  pub earlier : (t : Swap) → IsSwap n rows t → SwapBefore rows t s → figure_after n m rows t ≤ figure_of n m rows
