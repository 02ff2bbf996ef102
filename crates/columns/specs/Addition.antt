-- Column addition: an affine function is added to one column of a box; a call's checks and outcome, and lists of additions.
use Rattle.std.specs.Prelude.{Result, ⊤, ℕ, ◌-◌, ◌*◌, ◌^◌, List, [], ◌∷◌, ◌++◌, ltb, eqb, length}
use Rattle.refusals.specs.declared.Refusal.{Refusal}
use Rattle.std.specs.Int.Bits.{bit_xor}
use Rattle.boolean.specs.Bits.{affine}
use Rattle.boolean.specs.Sums.{list_below}
use Rattle.boolean.specs.Functions.{at}
use Rattle.refusals.specs.Table.{Check, ◌unless◌, in_range, box_checks, first, after, Wrote, said_written}
use Rattle.refusals.specs.declared.Refusal.TheVariants.{Parameter, WrittenLength}

-- a row, with bit j XORed with w·x XOR b
unfoldable pub added_row : (j w b x row : ℕ) → ℕ
unfolding affine
added_row j w b x row = bit_xor row (affine w b x * 2 ^ (j - 1))

-- the new rows
unfoldable pub added_rows : (j w b : ℕ) (rows : List ℕ) → List ℕ
unfolding list_below added_row
added_rows j w b rows = list_below (length rows) (λ x. added_row j w b x (at rows x))

-- the checks of the call: a box's own, then the column, the mask, the constant, and the written array
unfoldable pub addition_checks : (n m : ℕ) (rows : List ℕ) (j w b room : ℕ) → List Check
addition_checks n m rows j w b room =
    box_checks n m rows ++ (
    (Parameter unless in_range 1 m j)
    ∷ (Parameter unless ltb w (2 ^ n))
    ∷ (Parameter unless ltb b 2)
    ∷ (WrittenLength unless eqb room (2 ^ n))
    ∷ [])

-- the outcome of a call of `columns::add_to_column`
abbrev pub AdditionCalled : (n m : ℕ) (rows : List ℕ) (j w b : ℕ) (lent : List ℕ) (answer : Result ⊤ Refusal) (left : List ℕ) → Type 0
AdditionCalled n m rows j w b lent answer left =
    Wrote (addition_checks n m rows j w b (length lent)) [] (added_rows j w b rows) lent (said_written answer) left

-- an addition in a list of them: its column, its mask and constant, and the array that it is lent
pub record Addition : Type 0 where
  pub column : ℕ
  pub mask : ℕ
  pub constant : ℕ
  pub lent : List ℕ

-- what the checks of an addition to these rows find
unfoldable pub addition_checked : (n m : ℕ) (rows : List ℕ) (a : Addition) → Result ⊤ Refusal
unfolding first addition_checks
addition_checked n m rows a = first (addition_checks n m rows a.column a.mask a.constant (length a.lent))

-- the rows that stand after an addition: its new rows where it is accepted, and else those it was given
unfoldable pub standing_rows : (n m : ℕ) (rows : List ℕ) (a : Addition) → List ℕ
unfolding addition_checked added_rows
standing_rows n m rows a = after (addition_checked n m rows a) (added_rows a.column a.mask a.constant rows) rows

-- the rows that stand after a list of additions, each given the rows that stand
unfoldable pub rows_after_all : (n m : ℕ) (rows : List ℕ) (additions : List Addition) → List ℕ
unfolding standing_rows
rows_after_all n m rows [] = rows
rows_after_all n m rows (a ∷ additions) = rows_after_all n m (standing_rows n m rows a) additions
