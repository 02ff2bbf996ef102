-- The calls on components: checks, answers and outcomes.
use Rattle.std.specs.Prelude.{Ok, Err, Result, ⊤, ℕ, ◌-◌, ◌^◌, List, [], ◌∷◌, ◌++◌, eqb, ℤ, length}
use Rattle.refusals.specs.declared.Refusal.{Refusal}
use Rattle.boolean.specs.Functions.{component, spectrum}
use Rattle.refusals.specs.Table.{Check, ◌unless◌, in_range, box_checks, Reply, figures, refusal, number, Wrote, said_written}
use Rattle.refusals.specs.declared.Refusal.TheVariants.{Parameter, WrittenLength}
use Rattle.boolean.specs.Selection.{Candidate}
use Rattle.linear.specs.declared.Found.{Found}

-- the spectrum of component c: a box's checks, then the component's mask and the written array
unfoldable pub component_checks : (n m : ℕ) (rows : List ℕ) (c room : ℕ) → List Check
component_checks n m rows c room =
    box_checks n m rows ++ (
    (Parameter unless in_range 1 (2 ^ m - 1) c)
    ∷ (WrittenLength unless eqb room (2 ^ n))
    ∷ [])

-- the outcome of a call of `linear::spectrum_of_component`
abbrev pub ComponentCalled : (n m : ℕ) (rows : List ℕ) (c : ℕ) (lent : List ℤ) (answer : Result ⊤ Refusal) (left : List ℤ) → Type 0
ComponentCalled n m rows c lent answer left =
    Wrote (component_checks n m rows c (length lent)) [] (spectrum n (component rows c)) lent (said_written answer) left

-- what the nonlinearity's answer says: the figure, c, w and b, or the number of the refusal
abbrev pub said_least_pair : Result Found Refusal → Reply
said_least_pair (Ok found) = figures (found.count ∷ found.c ∷ found.w ∷ found.b ∷ [])
said_least_pair (Err e) = refusal (number e)

-- the best pair so far, as a candidate
abbrev pub pair_candidate : Found → Candidate
pair_candidate f = record { figure = f.count; witness = f.c ∷ f.w ∷ f.b ∷ [] }
