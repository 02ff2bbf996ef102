-- The autocorrelation and the dynamic distance over a part of the combinations: checks and answers.
use Rattle.refusals.specs.declared.Refusal.{Refusal}
use Rattle.std.specs.Prelude.{Result, Ok, Err, Option, Some, None, ℕ, List, [], ◌∷◌, ◌++◌}
use Rattle.avalanche.specs.declared.FoundChange.{FoundChange}
use Rattle.refusals.specs.Table.{Check, Reply, figures, refusal, number, reply_after, first}
use Rattle.masks.specs.Parts.{part_lines}
use Rattle.linear.specs.Nonlinearity.{part_checks}
use Rattle.avalanche.specs.Avalanche.{autocorrelation_between, distance_between}
use Rattle.avalanche.specs.Calls.{distance_checks}

-- what the answer says: the figure, c and s, or no figure, or the number of the refusal
abbrev pub said_part_change : Result (Option FoundChange) Refusal → Reply
said_part_change (Ok (Some found)) = figures (found.figure ∷ found.c ∷ found.s ∷ [])
said_part_change (Ok None) = figures []
said_part_change (Err e) = refusal (number e)

-- the dynamic distance over a part: the plain call's checks, then that the part lies from 1 to 2^m − 1 and has a mask
unfoldable pub distance_part_checks : (n m : ℕ) (rows : List ℕ) (i j low high : ℕ) → List Check
unfolding distance_checks
distance_part_checks n m rows i j low high = distance_checks n m rows i j ++ part_lines m low high

-- what the calls over a part reply
abbrev pub autocorrelation_between_reply : (n m : ℕ) (rows : List ℕ) (i low high : ℕ) → Reply
autocorrelation_between_reply n m rows i low high =
    reply_after (first (part_checks n m rows i low high)) (autocorrelation_between n m rows i low high)

abbrev pub distance_between_reply : (n m : ℕ) (rows : List ℕ) (i j low high : ℕ) → Reply
distance_between_reply n m rows i j low high =
    reply_after (first (distance_part_checks n m rows i j low high)) (distance_between n m rows i j low high)
