-- The calls on a part of the combinations: their answers.
use Rattle.refusals.specs.declared.Refusal.{Refusal}
use Rattle.std.specs.Prelude.{Result, Ok, Err, Option, Some, None, [], ◌∷◌}
use Rattle.linear.specs.declared.Found.{Found}
use Rattle.refusals.specs.Table.{Reply, figures, refusal, number}

-- what the answer over a part says: the figure, c, w and b, or no figure, or the number of the refusal
abbrev pub said_part : Result (Option Found) Refusal → Reply
said_part (Ok (Some found)) = figures (found.count ∷ found.c ∷ found.w ∷ found.b ∷ [])
said_part (Ok None) = figures []
said_part (Err e) = refusal (number e)
