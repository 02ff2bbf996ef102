-- The three constructions: their checks, in the order of document 01's table, all lengths before any value; and their outcomes.
use Rattle.std.specs.Prelude.{Result, ⊤, ℕ, suc, ◌/◌, ◌%◌, ◌^◌, ◌&&◌, List, [], ◌∷◌, ltb, eqb, length}
use Rattle.refusals.specs.declared.Refusal.{Refusal}
use Rattle.refusals.specs.Table.{Check, ◌unless◌, in_range, all_below, Wrote, said_written}
use Rattle.refusals.specs.declared.Refusal.TheVariants.{InputWidth, ReadLength, Value, Permutation, Parameter, WrittenLength}
use Rattle.constructions.specs.Enlargement.{enlarged_table, enlarged_rows}
use Rattle.constructions.specs.BentForm.{is_permutation, bent_table}

-- one column
unfoldable pub column_checks : (n : ℕ) (table : List ℕ) (k a room : ℕ) → List Check
column_checks n table k a room =
    (InputWidth unless in_range 1 7 n)
    ∷ (ReadLength unless eqb (length table) (2 ^ n))
    ∷ (Value unless all_below 2 table)
    ∷ (Parameter unless in_range 1 n k)
    ∷ (Parameter unless ltb a 2)
    ∷ (WrittenLength unless eqb room (2 ^ suc n))
    ∷ []

-- a whole box: m is n
unfoldable pub enlarge_checks : (n : ℕ) (rows table : List ℕ) (k room : ℕ) → List Check
enlarge_checks n rows table k room =
    (InputWidth unless in_range 1 7 n)
    ∷ (ReadLength unless eqb (length rows) (2 ^ n))
    ∷ (ReadLength unless eqb (length table) (2 ^ n))
    ∷ (Value unless all_below (2 ^ n) rows)
    ∷ (Value unless all_below 2 table)
    ∷ (Parameter unless in_range 1 n k)
    ∷ (WrittenLength unless eqb room (2 ^ suc n))
    ∷ []

-- the bent form: n is 2, 4, 6 or 8
unfoldable pub bent_checks : (n : ℕ) (permutation table : List ℕ) (room : ℕ) → List Check
unfolding is_permutation
bent_checks n permutation table room =
    (InputWidth unless (in_range 2 8 n && eqb (n % 2) 0))
    ∷ (ReadLength unless eqb (length permutation) (2 ^ (n / 2)))
    ∷ (ReadLength unless eqb (length table) (2 ^ (n / 2)))
    ∷ (Value unless all_below 2 table)
    ∷ (Permutation unless is_permutation (2 ^ (n / 2)) permutation)
    ∷ (WrittenLength unless eqb room (2 ^ n))
    ∷ []

-- the outcome of a call of `constructions::enlarge_column`
abbrev pub ColumnCalled : (n : ℕ) (table : List ℕ) (k a : ℕ) (lent : List ℕ) (answer : Result ⊤ Refusal) (left : List ℕ) → Type 0
ColumnCalled n table k a lent answer left =
    Wrote (column_checks n table k a (length lent)) [] (enlarged_table n table k a) lent (said_written answer) left

-- the outcome of a call of `constructions::enlarge_box`
abbrev pub BoxCalled : (n : ℕ) (rows table : List ℕ) (k : ℕ) (lent : List ℕ) (answer : Result ⊤ Refusal) (left : List ℕ) → Type 0
BoxCalled n rows table k lent answer left =
    Wrote (enlarge_checks n rows table k (length lent)) [] (enlarged_rows n rows table k) lent (said_written answer) left

-- the outcome of a call of `constructions::bent_function`
abbrev pub BentCalled : (n : ℕ) (permutation table lent : List ℕ) (answer : Result ⊤ Refusal) (left : List ℕ) → Type 0
BentCalled n permutation table lent answer left =
    Wrote (bent_checks n permutation table (length lent)) [] (bent_table n permutation table) lent (said_written answer) left
