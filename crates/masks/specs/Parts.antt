-- A sweep in parts: what a part finds, and how two results are merged. The figures are compared by `before`, which says of two of them
-- whether the first is the better one.
use Rattle.std.specs.Prelude.{ℕ, ◌-◌, ◌^◌, Bool, true, false, ◌&&◌, ◌||◌, List, [], ◌∷◌, ltb, eqb}
use Rattle.std.specs.Int.Count.{ones}
use Rattle.boolean.specs.Functions.{at, components}
use Rattle.boolean.specs.Selection.{Candidate, best, shown}
use Rattle.boolean.specs.Sums.{each, keep}
use Rattle.refusals.specs.Table.{Check, ◌unless◌, Reply, figures, refusal, in_range}
use Rattle.refusals.specs.declared.Refusal.TheVariants.{Parameter}

-- the components within the limit i whose masks lie from `first` to `last`, in the components' order
unfoldable pub components_between : (m i first last : ℕ) → List ℕ
unfolding keep components
components_between m i first last = keep (λ c. in_range first last c) (components m i)

-- the lines of a call's table on its part: it lies from 1 to 2^m − 1 and has a mask
abbrev pub part_lines : (m first last : ℕ) → List Check
part_lines m first last = (Parameter unless in_range 1 (2 ^ m - 1) first) ∷ (Parameter unless in_range first (2 ^ m - 1) last) ∷ []

-- what a reply gives of the first best of candidates: its figure, then its witness; and no figure where there is no candidate
abbrev pub shown_best : (beats : Candidate → Candidate → Bool) (cs : List Candidate) → List ℕ
shown_best beats [] = []
shown_best beats (c ∷ cs) = shown (best beats c cs)

-- What a call over a part finds, whatever it measures: each component c has the candidates `candidates c`, and of those of the components
-- within the limit i from `first` to `last`, in the components' order, the first best is shown.
unfoldable pub best_between : (beats : Candidate → Candidate → Bool) (m i first last : ℕ) (candidates : ℕ → List Candidate) → List ℕ
unfolding each components_between
best_between beats m i first last candidates = shown_best beats (each (components_between m i first last) candidates)

-- of figures of which the larger is the better one
abbrev pub above : (x y : ℕ) → Bool
above x y = ltb y x

-- the mask a comes before b: it has fewer ones, or as many and is smaller
abbrev pub earlier : (a b : ℕ) → Bool
earlier a b = ltb (ones a) (ones b) || (eqb (ones a) (ones b) && ltb a b)

-- `low` is below `high`, or they are equal and the mask c comes before the best so far
abbrev pub sooner : (low high c best : ℕ) → Bool
sooner low high c best = ltb low high || (eqb low high && earlier c best)

-- Two results merged: the better figure, and of equal figures that of the mask that comes first, which stands second in a reply. What is
-- without a figure adds nothing.
unfoldable pub merged_figures : (before : ℕ → ℕ → Bool) (xs ys : List ℕ) → List ℕ
merged_figures before [] ys = ys
merged_figures before (x ∷ xs) [] = x ∷ xs
merged_figures before (x ∷ xs) (y ∷ ys) =
    elim (before y x || (eqb y x && earlier (at ys 0) (at xs 0))) [ true ↦ y ∷ ys | false ↦ x ∷ xs ]

-- and two replies: a refusal stays one
abbrev pub merged_reply : (before : ℕ → ℕ → Bool) (x y : Reply) → Reply
merged_reply before (refusal e) y = refusal e
merged_reply before (figures xs) (refusal e) = refusal e
merged_reply before (figures xs) (figures ys) = figures (merged_figures before xs ys)

-- replies merged one after the other, as a loop does it
abbrev pub merged_in_turn : (before : ℕ → ℕ → Bool) (so_far : Reply) (replies : List Reply) → Reply
merged_in_turn before so_far [] = so_far
merged_in_turn before so_far (r ∷ rs) = merged_in_turn before (merged_reply before so_far r) rs
