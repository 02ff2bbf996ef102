-- What the statements on sweeps in parts speak of.
use Rattle.std.specs.Prelude.{ℕ, ◌-◌, ◌^◌, ◌≡◌, ◌⊎◌, Bool, ◌||◌, List, [], ◌∷◌}
use Rattle.boolean.specs.Functions.{MaskBefore}
use Rattle.refusals.specs.Table.{Reply, figures, refusal, in_range}
use Rattle.refusals.specs.Statements.{TableLine, ◌unless_that◌, Between}
use Rattle.masks.specs.Parts.{merged_reply}
use Rattle.masks.specs.Statements.{Cut}

-- the two lines on a part: it begins from 1 to 2^m − 1, and ends from there to 2^m − 1
abbrev pub end_lines : (m low high : ℕ) → List TableLine
end_lines m low high = (6 unless_that Between 1 (2 ^ m - 1) low) ∷ (6 unless_that Between low (2 ^ m - 1) high) ∷ []

-- What two replies of one call over parts become. A reply has its figure first, then the mask c, then the rest of the witness; `Better`
-- says of two figures that the first is the better one.
pub record MergesByOrder (Better : (y x : ℕ) → Type 0) (merges : (x y : Reply) → Reply) : Type 0 where
  -- a refusal stays one
  pub refused_first : (k : ℕ) (y : Reply) → merges (refusal k) y ≡ refusal k
  pub refused_second : (xs : List ℕ) (k : ℕ) → merges (figures xs) (refusal k) ≡ refusal k
  -- nothing adds nothing
  pub nothing_first : (y : Reply) → merges (figures []) y ≡ y
  pub nothing_second : (x : Reply) → merges x (figures []) ≡ x
  -- the better figure, and of equal figures that of fewer ones, and of as many ones that of the smaller mask
  pub takes_second : (x c : ℕ) (v : List ℕ) (y d : ℕ) (w : List ℕ) → Better y x ⊎ ((y ≡ x) × MaskBefore d c)
      → merges (figures (x ∷ c ∷ v)) (figures (y ∷ d ∷ w)) ≡ figures (y ∷ d ∷ w)
  pub keeps_first : (x c : ℕ) (v : List ℕ) (y d : ℕ) (w : List ℕ) → ¬ (Better y x ⊎ ((y ≡ x) × MaskBefore d c))
      → merges (figures (x ∷ c ∷ v)) (figures (y ∷ d ∷ w)) ≡ figures (x ∷ c ∷ v)

-- Answers of a call over parts, merged in any order and grouping, and the masks that they are of. `says` is what an answer says and `reply`
-- what the call replies of a part: `of_part` asks the contract of the call, and `of_two` that of the function that merges two answers.
pub data MergedAnswers {A : Type 0} (says : A → Reply) (before : ℕ → ℕ → Bool) (m : ℕ) (reply : Cut m → Reply)
    : (covers : ℕ → Bool) (answer : A) → Type 0 where
  of_part : (c : Cut m) (a : A) → says a ≡ reply c → MergedAnswers says before m reply (λ k. in_range c.low c.high k) a
  of_two : {p q : ℕ → Bool} {x y : A} → MergedAnswers says before m reply p x → MergedAnswers says before m reply q y
      → (r : A) → says r ≡ merged_reply before (says x) (says y) → MergedAnswers says before m reply (λ k. p k || q k) r
