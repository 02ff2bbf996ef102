-- The table of refusals in plain words, and what it means that a call ends by it: what theorems say; no contract needs it.
use Rattle.std.specs.Prelude.{ℕ, ◌^◌, ◌≤◌, ◌<◌, ◌≡◌, ◌⊎◌, ◌↔◌, List, [], ◌∷◌, length}
use Rattle.boolean.specs.Functions.{at}
use Rattle.refusals.specs.Table.{Reply, figures, refusal}

infix 5 ◌unless_that◌
-- a line of a call's table: the number that is given unless that holds
pub data TableLine : Type 1 where
  ◌unless_that◌ : ℕ → Type 0 → TableLine

-- number k is that of the first line that is met: its condition is met, and that of no earlier line
abbrev pub FirstMet : (k : ℕ) (lines : List TableLine) → Type 0
FirstMet k [] = ⊥
FirstMet k ((j unless_that P) ∷ lines) = ((k ≡ j) × (¬ P)) ⊎ (P × FirstMet k lines)

-- the condition of no line is met
abbrev pub NoneMet : List TableLine → Type 0
NoneMet [] = Unit {0}
NoneMet ((j unless_that P) ∷ lines) = P × NoneMet lines

-- A call's reply by a table: its figures exactly when no line is met, a number exactly when it is that of the first line that is met, and
-- always the one or the other.
pub record Answers (reply : Reply) (given : List ℕ) (lines : List TableLine) : Type 0 where
  pub figures_exactly : (reply ≡ figures given) ↔ NoneMet lines
  pub refused_exactly : (k : ℕ) → (reply ≡ refusal k) ↔ FirstMet k lines
  pub one_of_them : (reply ≡ figures given) ⊎ ((k : ℕ) × (reply ≡ refusal k))

-- What a call that writes replies, as in `Answers`, and leaves in the lent array: where no line is met the array holds the result, and
-- where one is, what it held before.
pub record Writes {A : Type 0} (said : Reply) (given : List ℕ) (lines : List TableLine) (result before left : List A) : Type 0 where
  pub answers : Answers said given lines
  pub result_left : NoneMet lines → left ≡ result
  pub nothing_changed : (k : ℕ) → FirstMet k lines → left ≡ before

-- a number from lo to hi
abbrev pub Between : (lo hi a : ℕ) → Type 0
Between lo hi a = (lo ≤ a) × (a ≤ hi)

-- every entry of an array is below a limit
abbrev pub EachBelow : (limit : ℕ) (xs : List ℕ) → Type 0
EachBelow limit xs = (x : ℕ) → x < length xs → at xs x < limit

-- no two entries are equal
abbrev pub NoTwoEqual : List ℕ → Type 0
NoTwoEqual xs = (x y : ℕ) → x < y → y < length xs → ¬ (at xs x ≡ at xs y)

-- the lines of a box of at most so many outputs, and then others
abbrev pub box_lines : (most n m : ℕ) (rows : List ℕ) (more : List TableLine) → List TableLine
box_lines most n m rows more =
    (1 unless_that Between 1 8 n)
    ∷ (2 unless_that Between 1 most m)
    ∷ (3 unless_that (length rows ≡ 2 ^ n))
    ∷ (4 unless_that EachBelow (2 ^ m) rows)
    ∷ more

-- those of a call on the combinations of at most i outputs
abbrev pub limit_lines : (n m : ℕ) (rows : List ℕ) (i : ℕ) → List TableLine
limit_lines n m rows i = box_lines 32 n m rows ((6 unless_that Between 1 m i) ∷ [])

-- those of a truth table, and then others
abbrev pub table_lines : (n : ℕ) (table : List ℕ) (more : List TableLine) → List TableLine
table_lines n table more =
    (1 unless_that Between 1 8 n)
    ∷ (3 unless_that (length table ≡ 2 ^ n))
    ∷ (4 unless_that EachBelow 2 table)
    ∷ more
