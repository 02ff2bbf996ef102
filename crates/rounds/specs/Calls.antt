-- The call's arguments and its answer.
use Rattle.refusals.specs.declared.Refusal.{Refusal}
use Rattle.std.specs.Prelude.{Result, Ok, Err}
use Rattle.rounds.specs.declared.NearestSum.{NearestSum}
use Rattle.std.specs.Prelude.{ℕ, ◌≡◌, List, [], ◌∷◌, ◌++◌, take, drop}
use Rattle.refusals.specs.Table.{Reply, figures, refusal, number}
use Rattle.rounds.specs.Round.{Summand, summand_of}
use Rattle.rounds.specs.declared.Widths.{Widths}

-- the four boxes that are handed over, by their widths and rows
abbrev pub summands_of : (w : Widths) (rows1 rows2 rows3 rows4 : List ℕ) → List Summand
summands_of w rows1 rows2 rows3 rows4 =
    summand_of w.n1 w.m1 rows1 ∷ summand_of w.n2 w.m2 rows2 ∷ summand_of w.n3 w.m3 rows3 ∷ summand_of w.n4 w.m4 rows4 ∷
    []

-- what the answer says, for this count of boxes: the figure, c, a mask for each box and b, or the number of the refusal
abbrev pub said_least_sum : (count : ℕ) (answer : Result NearestSum Refusal) → Reply
said_least_sum count (Ok found) =
    figures (found.figure ∷ found.c ∷ (take count (found.w1 ∷ found.w2 ∷ found.w3 ∷ found.w4 ∷ []) ++ (found.b ∷ [])))
said_least_sum count (Err e) = refusal (number e)

-- the answer's masks past that number are 0
abbrev pub PastZero : (count : ℕ) (answer : Result NearestSum Refusal) → Type 0
PastZero count (Ok found) = drop count (found.w1 ∷ found.w2 ∷ found.w3 ∷ found.w4 ∷ []) ≡ drop count (0 ∷ 0 ∷ 0 ∷ 0 ∷ [])
PastZero count (Err e) = Unit {0}

-- The whole answer for this count of boxes: it says the reply, and its masks past the number are 0. No two answers are so: `one_answer`
-- (proofs/Answers).
pub record SumAnswer (count : ℕ) (answer : Result NearestSum Refusal) (reply : Reply) : Type 0 where
  pub says : said_least_sum count answer ≡ reply
  pub past : PastZero count answer
