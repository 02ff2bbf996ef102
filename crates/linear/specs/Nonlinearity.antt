-- Nonlinearity: the least count of differing inputs over the components within a limit and all affine functions, with the first pair that
-- reaches it.
use Rattle.std.specs.Prelude.{ℕ, ◌^◌, List, [], ◌∷◌, ◌++◌}
use Rattle.boolean.specs.Sums.{each, list_below}
use Rattle.boolean.specs.Functions.{distance, component, components}
use Rattle.boolean.specs.Selection.{Candidate, lower, first_least, shown}
use Rattle.refusals.specs.Table.{Check, Reply, reply_after, first, limit_checks}
use Rattle.masks.specs.Parts.{components_between, part_lines, best_between}

-- a pair: component c and the affine function (w, b), with the count of inputs at which they differ
abbrev pub pair : (n : ℕ) (rows : List ℕ) (c w b : ℕ) → Candidate
pair n rows c w b = record { figure = distance n (component rows c) w b; witness = c ∷ w ∷ b ∷ [] }

-- the pairs of one component, in ascending w, then b
unfoldable pub pairs_of : (n : ℕ) (rows : List ℕ) (c : ℕ) → List Candidate
unfolding each list_below
pairs_of n rows c = each (list_below (2 ^ n) (λ w. w)) (λ w. pair n rows c w 0 ∷ pair n rows c w 1 ∷ [])

-- all pairs of the components within the limit i, in the components' order, then w, then b
unfoldable pub pairs : (n m : ℕ) (rows : List ℕ) (i : ℕ) → List Candidate
unfolding each components pairs_of
pairs n m rows i = each (components m i) (λ c. pairs_of n rows c)

-- the first pair that differs at the fewest inputs
unfoldable pub nonlinearity : (n m : ℕ) (rows : List ℕ) (i : ℕ) → Candidate
unfolding first_least pairs
nonlinearity n m rows i = first_least (pairs n m rows i)

-- what the call replies: figure, c, w, b, or the number of the refusal
abbrev pub nonlinearity_reply : (n m : ℕ) (rows : List ℕ) (i : ℕ) → Reply
nonlinearity_reply n m rows i = reply_after (first (limit_checks n m rows i)) (shown (nonlinearity n m rows i))

-- A part of the sweep: the same over the components whose masks lie from `low` to `high`. Where none within the limit lies there, there is
-- no figure.
unfoldable pub pairs_between : (n m : ℕ) (rows : List ℕ) (i low high : ℕ) → List Candidate
unfolding each components_between pairs_of
pairs_between n m rows i low high = each (components_between m i low high) (λ c. pairs_of n rows c)

unfoldable pub nonlinearity_between : (n m : ℕ) (rows : List ℕ) (i low high : ℕ) → List ℕ
unfolding best_between pairs_of
nonlinearity_between n m rows i low high = best_between lower m i low high (pairs_of n rows)

-- its checks: the plain call's, then that the part lies from 1 to 2^m − 1 and has a mask
unfoldable pub part_checks : (n m : ℕ) (rows : List ℕ) (i low high : ℕ) → List Check
unfolding limit_checks
part_checks n m rows i low high = limit_checks n m rows i ++ part_lines m low high

-- what the call over a part replies
abbrev pub nonlinearity_between_reply : (n m : ℕ) (rows : List ℕ) (i low high : ℕ) → Reply
nonlinearity_between_reply n m rows i low high =
    reply_after (first (part_checks n m rows i low high)) (nonlinearity_between n m rows i low high)
