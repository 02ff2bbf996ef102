-- Boxes added together (document 02 §4): each box is fed by its own input bits, box 1 by the lowest, and their outputs are XORed. What is
-- measured is the nonlinearity of that sum, as a box whose inputs are all their inputs.
use Rattle.std.specs.Prelude.{ℕ, ◌+◌, ◌*◌, ◌/◌, ◌%◌, ◌^◌, Bool, true, List, [], ◌∷◌, ◌++◌, eqb, take}
use Rattle.std.specs.Int.Bits.{bit_xor}
use Rattle.boolean.specs.Sums.{each, every, list_below}
use Rattle.boolean.specs.Functions.{at, component, components, distance}
use Rattle.boolean.specs.Selection.{Candidate, lower, first_least, shown}
use Rattle.refusals.specs.Table.{Check, ◌unless◌, in_range, box_checks, first, Reply, reply_after}
use Rattle.refusals.specs.declared.Refusal.TheVariants.{BoxCount, OutputWidths, Parameter}
use Rattle.masks.specs.Parts.{part_lines, best_between}

-- one box of the sum: its numbers of inputs and outputs, and its rows
pub record Summand : Type 0 where
  pub inputs : ℕ
  pub outputs : ℕ
  pub rows : List ℕ

-- N, the number of inputs of all boxes together
unfoldable pub inputs_of : List Summand → ℕ
inputs_of [] = 0
inputs_of (s ∷ ss) = s.inputs + inputs_of ss

-- the sum at the input x: the first box takes the lowest bits, the others the rest
unfoldable pub sum_at : (ss : List Summand) (x : ℕ) → ℕ
sum_at [] x = 0
sum_at (s ∷ ss) x = bit_xor (at s.rows (x % 2 ^ s.inputs)) (sum_at ss (x / 2 ^ s.inputs))

-- the sum as a box: its rows at all 2^N inputs
unfoldable pub sum_rows : List Summand → List ℕ
unfolding inputs_of sum_at list_below
sum_rows ss = list_below (2 ^ inputs_of ss) (λ x. sum_at ss x)

-- the masks of affine functions, one for each box from box 1 on, in ascending order of the first, then the second, and so on
unfoldable pub masks_of_inputs : List Summand → List (List ℕ)
unfolding each list_below
masks_of_inputs [] = [] ∷ []
masks_of_inputs (s ∷ ss) = each (list_below (2 ^ s.inputs) (λ w. w)) (λ w. each (masks_of_inputs ss) (λ ws. (w ∷ ws) ∷ []))

-- one mask put together of a mask for each box, the first box's in the lowest bits
unfoldable pub joined : (ss : List Summand) (ws : List ℕ) → ℕ
joined [] ws = 0
joined (s ∷ ss) [] = 0
joined (s ∷ ss) (w ∷ ws) = w + 2 ^ s.inputs * joined ss ws

-- the count of the inputs, of all 2^N, at which component c of the sum and the affine function (v, b) of N inputs differ
abbrev pub sum_distance : (ss : List Summand) (c v b : ℕ) → ℕ
sum_distance ss c v b = distance (inputs_of ss) (component (sum_rows ss) c) v b

-- component c of the sum and the affine function whose mask is put together of ws, with that count
abbrev pub sum_pair : (ss : List Summand) (c : ℕ) (ws : List ℕ) (b : ℕ) → Candidate
sum_pair ss c ws b = record { figure = sum_distance ss c (joined ss ws) b; witness = c ∷ (ws ++ (b ∷ [])) }

-- the pairs of one component, in the masks' order, then b
unfoldable pub sum_pairs_of : (ss : List Summand) (c : ℕ) → List Candidate
unfolding each masks_of_inputs
sum_pairs_of ss c = each (masks_of_inputs ss) (λ ws. sum_pair ss c ws 0 ∷ sum_pair ss c ws 1 ∷ [])

-- all pairs of the components cs, in their order, then the masks', then b
unfoldable pub sum_pairs : (ss : List Summand) (cs : List ℕ) → List Candidate
unfolding each sum_pairs_of
sum_pairs ss cs = each cs (λ c. sum_pairs_of ss c)

-- the first pair that differs at the fewest inputs
unfoldable pub sum_nonlinearity : (ss : List Summand) (cs : List ℕ) → Candidate
unfolding first_least sum_pairs
sum_nonlinearity ss cs = first_least (sum_pairs ss cs)

-- The call: which boxes it reads, its checks, and what it replies.

-- a box as it is handed over
abbrev pub summand_of : (n m : ℕ) (rows : List ℕ) → Summand
summand_of n m rows = record { inputs = n; outputs = m; rows = rows }

-- the boxes that are given, of those handed over: the first `count`. No other is read.
abbrev pub first_given : (count : ℕ) (handed : List Summand) → List Summand
first_given count handed = take count handed

-- the outputs of the sum: those of box 1
abbrev pub outputs_of : List Summand → ℕ
outputs_of [] = 0
outputs_of (s ∷ ss) = s.outputs

-- whether the boxes have as many outputs as box 1
abbrev pub same_outputs : List Summand → Bool
same_outputs [] = true
same_outputs (s ∷ ss) = every (λ t. eqb t.outputs s.outputs) ss

-- the checks of one box
abbrev pub summand_checks : Summand → List Check
summand_checks s = box_checks s.inputs s.outputs s.rows

-- the checks: the number of boxes, each given box's own in box order, their output widths, and the limit
unfoldable pub sum_checks : (count : ℕ) (handed : List Summand) (i : ℕ) → List Check
unfolding each
sum_checks count handed i =
    let ss : List Summand = first_given count handed in
    (BoxCount unless in_range 1 4 count)
    ∷ (each ss summand_checks ++ (
    (OutputWidths unless same_outputs ss)
    ∷ (Parameter unless in_range 1 (outputs_of ss) i)
    ∷ []))

-- what the call replies: of the sum of the given boxes the figure, c, a mask for each box, b; or the number of the refusal
abbrev pub sum_reply : (count : ℕ) (handed : List Summand) (i : ℕ) → Reply
sum_reply count handed i =
    let ss : List Summand = first_given count handed in
    reply_after (first (sum_checks count handed i)) (shown (sum_nonlinearity ss (components (outputs_of ss) i)))

-- A part of the sweep: the same over the components whose masks lie from `low` to `high`. Where none within the limit lies there, there is
-- no figure.
unfoldable pub sum_between : (ss : List Summand) (i low high : ℕ) → List ℕ
unfolding best_between sum_pairs_of
sum_between ss i low high = best_between lower (outputs_of ss) i low high (sum_pairs_of ss)

-- its checks: the plain call's, then that the part lies from 1 to 2^m − 1 and has a mask
unfoldable pub sum_part_checks : (count : ℕ) (handed : List Summand) (i low high : ℕ) → List Check
unfolding sum_checks
sum_part_checks count handed i low high = sum_checks count handed i ++ part_lines (outputs_of (first_given count handed)) low high

-- what the call over a part replies
abbrev pub sum_between_reply : (count : ℕ) (handed : List Summand) (i low high : ℕ) → Reply
sum_between_reply count handed i low high =
    reply_after (first (sum_part_checks count handed i low high)) (sum_between (first_given count handed) i low high)
