-- How long a text can be: a number has at most ten digits, a figure eleven bytes with its space. Assumes nothing.
use Prim.Native.Nat.{ℕ, zero, suc, ◌+◌, ◌*◌, ◌/◌, ◌%◌, ◌≤◌}
use mathlib.Core.Bool.{Bool, true, false}
use mathlib.Core.List.{List, [], ◌∷◌, ◌++◌}
use native.Mathlib.Omega.{arith}
use lib.Dec.{ltb}
use lib.ListN.{length, length-append}
use Rattle.boolean.specs.Sums.{each}
use Rattle.texts.specs.Text.{decimal_digits, spaced, line}

pub digits_few : (d n : ℕ) → length (decimal_digits d n) ≤ d
unfolding decimal_digits
digits_few zero n = omega arith
digits_few (suc d) n = by (digits_few d (n / 10)) (ltb n 10)
  where
    by : length (decimal_digits d (n / 10)) ≤ d → (t : Bool) → length {A = ℕ} (elim t [ true ↦ ((48 + n) ∷ []) | false ↦ (decimal_digits d (n / 10) ++ ((48 + n % 10) ∷ [])) ]) ≤ suc d
    by h true = omega arith
    by h false = simp length-append (omega arith)

pub spaced_few : (figures : List ℕ) → length (spaced figures) ≤ 11 * length figures
unfolding spaced each
spaced_few [] = omega arith
spaced_few (x ∷ xs) = simp length-append (omega (arith, digits_few 10 x, spaced_few xs))

-- a line is no longer than its word, eleven bytes for each figure, and its end
pub line_few : (word figures : List ℕ) → length (line word figures) ≤ length word + 11 * length figures + 1
unfolding line
line_few word figures = simp length-append (omega (arith, spaced_few figures))
