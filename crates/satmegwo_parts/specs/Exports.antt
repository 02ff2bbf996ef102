-- What C is given of a part of a sweep, and of two parts that are merged.
use Rattle.std.specs.Prelude.{ℕ, ◌+◌, Bool, true, false, not, ◌&&◌, ◌||◌, List, [], ◌∷◌, eqb, leb, length, replicate, take}
use Rattle.boolean.specs.Functions.{at}
use Rattle.refusals.specs.Table.{Check, ◌unless◌, Reply, figures, refusal}
use Rattle.refusals.specs.declared.Refusal.TheVariants.{ReadLength, Value, WrittenLength}
use Rattle.masks.specs.Parts.{earlier}

-- what was found over a part, in an array for C: 1, then the figure and its witness; or zeros where no combination within the limit lies
-- there
unfoldable pub part_figures : (size : ℕ) (found : List ℕ) → List ℕ
part_figures size [] = replicate size 0
part_figures size (x ∷ xs) = 1 ∷ x ∷ xs

-- and of a whole reply
unfoldable pub flagged : (size : ℕ) (said : Reply) → Reply
unfolding part_figures
flagged size (figures found) = figures (part_figures size found)
flagged size (refusal k) = refusal k

-- how many elements a part of a sum of so many boxes has: a flag, the figure, c, a mask for each box up to the fourth, and b
abbrev pub sum_size : (count : ℕ) → ℕ
sum_size count = 4 + length {A = ℕ} (take count (0 ∷ 0 ∷ 0 ∷ 0 ∷ []))

-- Of two parts as C has them, the second is taken where it has a combination and the first has none, or its figure is better, or the same
-- and its combination comes first. The figure is the second element, and the combination the third.
unfoldable pub second_taken : (before : ℕ → ℕ → Bool) (x y : List ℕ) → Bool
second_taken before x y =
    not (eqb (at y 0) 0)
    && (eqb (at x 0) 0 || (before (at y 1) (at x 1) || (eqb (at y 1) (at x 1) && earlier (at y 2) (at x 2))))

unfoldable pub merged_part : (before : ℕ → ℕ → Bool) (x y : List ℕ) → List ℕ
unfolding second_taken
merged_part before x y = elim (second_taken before x y) [ true ↦ y | false ↦ x ]

-- The checks of a merging: the two arrays that are read have equally many elements, a flag, a figure and a combination at least; each flag
-- is 0 or 1; and the array that is written has as many.
unfoldable pub merge_checks : (x y : List ℕ) (room : ℕ) → List Check
merge_checks x y room =
    (ReadLength unless leb 3 (length x))
    ∷ (ReadLength unless eqb (length y) (length x))
    ∷ (Value unless leb (at x 0) 1)
    ∷ (Value unless leb (at y 0) 1)
    ∷ (WrittenLength unless eqb room (length x))
    ∷ []
