-- Document 02 §10: the swaps of two unlike rows in their order, and the first of them that raises the nonlinearity over all combinations.
use Rattle.std.specs.Prelude.{ℕ, suc, ◌-◌, ◌^◌, Bool, true, false, List, [], ◌∷◌, ltb, eqb}
use Rattle.std.specs.Int.Bits.{bit_xor}
use Rattle.std.specs.Int.Count.{ones}
use Rattle.boolean.specs.Sums.{list_from, list_below, each, first_of}
use Rattle.boolean.specs.Functions.{at, swapped}
use Rattle.refusals.specs.Table.{box_checks_up_to, first, Reply, reply_after}
use Rattle.linear.specs.Nonlinearity.{nonlinearity}

-- a swap of the rows at two inputs
pub record Swap : Type 0 where
  pub low : ℕ
  pub high : ℕ

-- the nonlinearity over all combinations
abbrev pub figure_of : (n m : ℕ) (rows : List ℕ) → ℕ
figure_of n m rows = (nonlinearity n m rows m).figure

-- and that after a swap
abbrev pub figure_after : (n m : ℕ) (rows : List ℕ) (s : Swap) → ℕ
figure_after n m rows s = figure_of n m (swapped rows s.low s.high)

-- the swap of two inputs, if their rows differ in d bits
unfoldable pub swap_at : (rows : List ℕ) (d low high : ℕ) → List Swap
swap_at rows d low high = elim (eqb (ones (bit_xor (at rows low) (at rows high))) d)
    [ true ↦ record { low = low; high = high } ∷ [] | false ↦ [] ]

-- the swaps of an input with each higher one whose rows differ in d bits, in ascending order
unfoldable pub swaps_from : (n : ℕ) (rows : List ℕ) (d low : ℕ) → List Swap
unfolding each list_from swap_at
swaps_from n rows d low = each (list_from (suc low) (2 ^ n - suc low) (λ h. h)) (λ h. swap_at rows d low h)

-- the swaps of rows that differ in d bits, by the lower input, then the higher
unfoldable pub swaps_by : (n : ℕ) (rows : List ℕ) (d : ℕ) → List Swap
unfolding each list_below swaps_from
swaps_by n rows d = each (list_below (2 ^ n) (λ l. l)) (λ l. swaps_from n rows d l)

-- all swaps of unlike rows, by the number of bits in which they differ, from 1 to m
unfoldable pub swaps : (n m : ℕ) (rows : List ℕ) → List Swap
unfolding each list_from swaps_by
swaps n m rows = each (list_from 1 m (λ d. d)) (λ d. swaps_by n rows d)

-- whether a swap raises the nonlinearity
unfoldable pub raises : (n m : ℕ) (rows : List ℕ) (s : Swap) → Bool
unfolding nonlinearity swapped
raises n m rows s = ltb (figure_of n m rows) (figure_after n m rows s)

-- what a reply gives of a swap, if there is one: 1, both inputs and the new figure; for "none" four zeros
abbrev pub shown_swap : (n m : ℕ) (rows : List ℕ) (ss : List Swap) → List ℕ
shown_swap n m rows [] = 0 ∷ 0 ∷ 0 ∷ 0 ∷ []
shown_swap n m rows (s ∷ ss) = 1 ∷ s.low ∷ s.high ∷ figure_after n m rows s ∷ []

-- the first swap that raises the nonlinearity
unfoldable pub raised : (n m : ℕ) (rows : List ℕ) → List ℕ
unfolding first_of raises swaps
raised n m rows = shown_swap n m rows (first_of (raises n m rows) (swaps n m rows))

-- what the call replies: a box of at most eight outputs is taken
abbrev pub raising_reply : (n m : ℕ) (rows : List ℕ) → Reply
raising_reply n m rows = reply_after (first (box_checks_up_to 8 n m rows)) (raised n m rows)
