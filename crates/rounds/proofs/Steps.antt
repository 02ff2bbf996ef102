-- The arrays of a box: one begins with its step tables, the other with the truth table of a component. Assumes nothing.
use mathlib.Core.Path.{◌≡◌, ap, ◌∙◌}
use mathlib.Core.List.{List, ◌++◌}
use Prim.Native.Nat.{ℕ, ◌*◌, ◌^◌, ◌<◌}
use lib.ListN.{length, take}
use lib.Seq.{take_at}
use Rattle.boolean.specs.Functions.{component}
use Rattle.boolean.specs.Sums.{list_below}
use Rattle.boolean.proofs.Lists.{length_list_below}
use Rattle.refusals.specs.Table.{Box}
use Rattle.masks.specs.Masks.{PowerAdded}
use Rattle.masks.specs.Steps.{step_tables, Steps, Stepping}
use Rattle.masks.proofs.Boxes.{box_some}
use Rattle.rounds.specs.Work.{Stepped}
use Rattle.rounds.specs.declared.Summand.{Summand as Lent}

-- what was written at the beginning of an array
begins : (k : ℕ) (written rest whole : List ℕ) → written ≡ whole → length whole ≡ k → take k (written ++ rest) ≡ whole
begins k written rest whole e n = take_at written rest k (ap length e ∙ n) ∙ e

module _ (m : ℕ) (rows : List ℕ) where
  -- step tables
  pub steps_begin : (written rest : List ℕ) → Steps m rows written → take (m * length rows) (written ++ rest) ≡ step_tables m rows
  unfolding step_tables
  steps_begin written rest s = begins (m * length rows) written rest (step_tables m rows) s.steps_are (length_list_below (m * length rows) _)

  -- a truth table
  pub table_begins : (c : ℕ) (written rest : List ℕ) → written ≡ list_below (length rows) (λ x. component rows c x)
      → take (length rows) (written ++ rest) ≡ list_below (length rows) (λ x. component rows c x)
  table_begins c written rest e = begins (length rows) written rest _ e (length_list_below (length rows) (component rows c))

-- what the step to the component of the next mask asks
pub stepping : (s : Lent) → Box s.n s.m s.rows.now → {last c : ℕ} {steps bits : List ℕ} → Stepped s last steps bits → PowerAdded last c → c < 2 ^ s.m
    → Stepping s.m s.rows.now (take (s.m * length s.rows.now) steps) last c (take (length s.rows.now) bits)
stepping s b p raised high = record {
  tables = record { m_high = b.m_high; few = b.small; some = box_some b; steps_are = p.steps_are };
  raised = raised;
  c_high = high;
  table_is = p.table_is;
}
