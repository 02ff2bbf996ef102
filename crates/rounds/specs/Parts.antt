-- The call on a part of the combinations: its answer, and two answers merged.
use Rattle.refusals.specs.declared.Refusal.{Refusal}
use Rattle.std.specs.Prelude.{Result, Ok, Err, Option, Some, None}
use Rattle.rounds.specs.declared.NearestSum.{NearestSum}
use Rattle.std.specs.Prelude.{ℕ, ◌≡◌, [], ◌∷◌, ◌++◌, ltb, take, drop}
use Rattle.refusals.specs.Table.{Reply, figures, refusal, number}
use Rattle.masks.specs.Parts.{merged_reply}

-- what the answer over a part says, for this count of boxes: the figure, c, a mask for each box and b, or no figure, or the number of the
-- refusal
abbrev pub said_part_sum : (count : ℕ) (answer : Result (Option NearestSum) Refusal) → Reply
said_part_sum count (Ok (Some found)) =
    figures (found.figure ∷ found.c ∷ (take count (found.w1 ∷ found.w2 ∷ found.w3 ∷ found.w4 ∷ []) ++ (found.b ∷ [])))
said_part_sum count (Ok None) = figures []
said_part_sum count (Err e) = refusal (number e)

-- its masks past that number are 0
abbrev pub PartPastZero : (count : ℕ) (answer : Result (Option NearestSum) Refusal) → Type 0
PartPastZero count (Ok (Some found)) = drop count (found.w1 ∷ found.w2 ∷ found.w3 ∷ found.w4 ∷ []) ≡ drop count (0 ∷ 0 ∷ 0 ∷ 0 ∷ [])
PartPastZero count (Ok None) = Unit {0}
PartPastZero count (Err e) = Unit {0}

-- The whole answer for this count of boxes, as `SumAnswer` has it of the plain call. No two answers are so: `one_part_answer`
-- (proofs/Answers).
pub record PartSumAnswer (count : ℕ) (answer : Result (Option NearestSum) Refusal) (reply : Reply) : Type 0 where
  pub says : said_part_sum count answer ≡ reply
  pub past : PartPastZero count answer

-- Two answers merged, for whichever count of boxes they are read: for four boxes it is an equation for every field. So what is merged of
-- whole answers is one: `merged_answer` (proofs/Answers).
abbrev pub SumsMerged : (x y merged : Result (Option NearestSum) Refusal) → Type 0
SumsMerged x y merged = (count : ℕ) → said_part_sum count merged ≡ merged_reply ltb (said_part_sum count x) (said_part_sum count y)
