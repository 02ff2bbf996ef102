-- The calls on the normal form, the degree and bijectivity: answers and outcomes. (The normal form's checks are those of any call that
-- reads a truth table and writes 2^n values: `table_call_checks`.)
use Rattle.std.specs.Prelude.{Ok, Err, Result, ⊤, ℕ, List, [], ◌∷◌, length}
use Rattle.algebraic.specs.declared.FoundDegree.{FoundDegree}
use Rattle.refusals.specs.declared.Refusal.{Refusal}
use Rattle.boolean.specs.Functions.{at, normal_form}
use Rattle.boolean.specs.Selection.{shown}
use Rattle.refusals.specs.Table.{first, box_checks, limit_checks, table_call_checks, Reply, figures}
use Rattle.refusals.specs.Table.{refusal, number, reply_after, as_figure, Wrote, said_written}
use Rattle.algebraic.specs.Algebraic.{box_degree, bijective}

-- the outcome of a call of `algebraic::normal_form`
abbrev pub FormCalled : (n : ℕ) (table lent : List ℕ) (answer : Result ⊤ Refusal) (left : List ℕ) → Type 0
FormCalled n table lent answer left =
    Wrote (table_call_checks n table (length lent)) [] (normal_form n (at table)) lent (said_written answer) left

-- what the degree's answer says: the degree and c, or the number of the refusal
abbrev pub said_degree_found : Result FoundDegree Refusal → Reply
said_degree_found (Ok found) = figures (found.degree ∷ found.c ∷ [])
said_degree_found (Err e) = refusal (number e)

-- what the calls on a box reply: their figures, or the number of the refusal
abbrev pub box_degree_reply : (n m : ℕ) (rows : List ℕ) (i : ℕ) → Reply
box_degree_reply n m rows i = reply_after (first (limit_checks n m rows i)) (shown (box_degree n m rows i))

abbrev pub bijective_reply : (n m : ℕ) (rows : List ℕ) → Reply
bijective_reply n m rows = reply_after (first (box_checks n m rows)) (as_figure (bijective n m rows))
