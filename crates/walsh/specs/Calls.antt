-- The two spectrum calls: their checks, in the order of document 01's table, and their outcomes.
use Rattle.std.specs.Prelude.{Result, ⊤, ℕ, ◌^◌, List, [], ◌∷◌, ◌++◌, eqb, ℤ, length}
use Rattle.refusals.specs.declared.Refusal.{Refusal}
use Rattle.boolean.specs.Sums.{list_below}
use Rattle.boolean.specs.Functions.{at, value_at, spectrum, inverse, is_spectrum}
use Rattle.refusals.specs.Table.{Check, ◌unless◌, in_range, table_call_checks, Wrote, said_written}
use Rattle.refusals.specs.declared.Refusal.TheVariants.{InputWidth, ReadLength, WrittenLength, NoFunction}

-- the truth table of a spectrum: the width and the two lengths, then whether a function has the values
unfoldable pub inverse_lengths : (n count room : ℕ) → List Check
inverse_lengths n count room =
    (InputWidth unless in_range 1 8 n)
    ∷ (ReadLength unless eqb count (2 ^ n))
    ∷ (WrittenLength unless eqb room (2 ^ n))
    ∷ []

unfoldable pub function_check : (n : ℕ) (values : List ℤ) → List Check
function_check n values = (NoFunction unless is_spectrum n values) ∷ []

unfoldable pub inverse_checks : (n : ℕ) (values : List ℤ) (room : ℕ) → List Check
unfolding inverse_lengths function_check
inverse_checks n values room = inverse_lengths n (length values) room ++ function_check n values

-- the outcome of a call of `walsh::spectrum`
abbrev pub SpectrumCalled : (n : ℕ) (table : List ℕ) (lent : List ℤ) (answer : Result ⊤ Refusal) (left : List ℤ) → Type 0
SpectrumCalled n table lent answer left =
    Wrote (table_call_checks n table (length lent)) [] (spectrum n (at table)) lent (said_written answer) left

-- the outcome of a call of `walsh::inverse_spectrum`
abbrev pub InverseCalled : (n : ℕ) (values : List ℤ) (lent : List ℕ) (answer : Result ⊤ Refusal) (left : List ℕ) → Type 0
InverseCalled n values lent answer left =
    Wrote (inverse_checks n values (length lent)) [] (list_below (2 ^ n) (λ x. inverse n (value_at values) x)) lent (said_written answer) left
