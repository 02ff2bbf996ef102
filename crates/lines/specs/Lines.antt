-- The text that the programs write of numbers, replies and refusals.
use Rattle.std.specs.Prelude.{ℕ, List, [], ◌∷◌, ◌++◌, codes}
use Rattle.std.specs.Fmt.{decimal}
use Rattle.std.specs.List.{flat_map}
use Rattle.refusals.specs.declared.Refusal.{Refusal}
use Rattle.refusals.specs.Table.{number, Reply, figures, refusal}

-- a number after a space
abbrev pub number_text : (v : ℕ) → List ℕ
number_text v = 32 ∷ decimal v

-- a word, some numbers, and the line's end
abbrev pub numbers_line : (word xs : List ℕ) → List ℕ
numbers_line word xs = word ++ (flat_map number_text xs ++ 10 ∷ [])

-- the line of the refusal with a number
abbrev pub refused_text : (k : ℕ) → List ℕ
refused_text k = numbers_line (codes "refused") (k ∷ [])

-- the line of a refusal
abbrev pub refused_line : (e : Refusal) → List ℕ
refused_line e = refused_text (number e)

-- what is shown of a reply and of what the call left: one thing of figures, and another of a refusal
abbrev pub shown_reply : {A : Type 0} (of_figures : List ℕ → A → List ℕ) (of_refusal : ℕ → List ℕ) (said : Reply) (left : A) → List ℕ
shown_reply of_figures of_refusal (figures xs) left = of_figures xs left
shown_reply of_figures of_refusal (refusal k) left = of_refusal k

-- the line of a reply: a word and its figures, or the line of the refusal
abbrev pub reply_line : (word : List ℕ) (said : Reply) → List ℕ
reply_line word (figures xs) = numbers_line word xs
reply_line word (refusal k) = refused_text k

-- the same, where nothing is written of a refusal
abbrev pub figures_line : (word : List ℕ) (said : Reply) → List ℕ
figures_line word (figures xs) = numbers_line word xs
figures_line word (refusal k) = []
