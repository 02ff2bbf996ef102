-- The answer of the call.
use Rattle.refusals.specs.declared.Refusal.{Refusal}
use Rattle.std.specs.Prelude.{Result, Ok, Err, Option, Some, None, [], ◌∷◌}
use Rattle.swaps.specs.declared.Raise.{Raise}
use Rattle.refusals.specs.Table.{Reply, figures, refusal, number}

-- what the answer says: 1, both inputs and the new figure; four zeros for "none"; or the number of the refusal
abbrev pub said_raising_swap : Result (Option Raise) Refusal → Reply
said_raising_swap (Ok (Some raise)) = figures (1 ∷ raise.low ∷ raise.high ∷ raise.figure ∷ [])
said_raising_swap (Ok None) = figures (0 ∷ 0 ∷ 0 ∷ 0 ∷ [])
said_raising_swap (Err e) = refusal (number e)
