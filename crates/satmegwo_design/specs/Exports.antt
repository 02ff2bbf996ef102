-- What the C library says in place of an answer: a number, and for reading an array that is lent for n and m.
use Rattle.std.specs.Prelude.{Result, ⊤}
use Rattle.refusals.specs.declared.Refusal.{Refusal}
use Rattle.std.specs.Prelude.{ℕ, zero, suc, List, [], ◌∷◌, ◌++◌, ◌≡◌, eqb, length}
use Rattle.refusals.specs.Table.{Check, ◌unless◌, first, Reply, figures, refusal, reply_after, after}
use Rattle.refusals.specs.declared.Refusal.TheVariants.{WrittenLength}
use Rattle.design.specs.declared.Design.{Design}
use Rattle.design.specs.Model.{DesignState, design_read_checks}
use Rattle.design.specs.Calls.{design_rows, state_of_design}
use Rattle.border.specs.Border.{status}

-- what an operation's number says: 0 that it was done, and any other that this refusal was given
abbrev pub number_says : ℕ → Reply
number_says zero = figures []
number_says (suc k) = refusal (suc k)

-- the array for the rows is looked at before that for the two figures
unfoldable pub read_design_checks : (s : DesignState) (room listed : ℕ) → List Check
unfolding design_read_checks
read_design_checks s room listed = design_read_checks s room ++ ((WrittenLength unless eqb listed 2) ∷ [])

-- Reading, of every design, by what its checks found: what is returned, and what the array for n and m and that for the rows hold then.
pub record BoxOut (d : Design) (found : Result ⊤ Refusal) (old_rows old_figures : List ℕ) (returned : ℕ)
    (new_rows new_figures : List ℕ) : Type 0 where
  pub number : returned ≡ status (reply_after found (d.n ∷ d.m ∷ []))
  pub widths : new_figures ≡ after found (d.n ∷ d.m ∷ []) old_figures
  pub box : new_rows ≡ after found (design_rows d) old_rows

abbrev pub ReadOut : (d : Design) (old_rows old_figures : List ℕ) (returned : ℕ) (new_rows new_figures : List ℕ) → Type 0
ReadOut d old_rows old_figures returned new_rows new_figures =
    BoxOut d (first (read_design_checks (state_of_design d) (length old_rows) (length old_figures))) old_rows old_figures returned new_rows
    new_figures
