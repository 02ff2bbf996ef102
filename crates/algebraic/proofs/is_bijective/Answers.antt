-- `algebraic::is_bijective` meets its contract: what the checks found says which case it is, then the widths, then the rows.
use Prim.Native.Nat.{ℕ}
use mathlib.Core.List.{List}
use mathlib.Core.Bool.{Bool, true, false}
use mathlib.Core.Path.{◌≡◌, sym, ap, ◌∙◌}
use Rattle.refusals.specs.Table.{figures, as_figure, first, box_checks, reply_after}
use Rattle.refusals.proofs.Checks.{reply_refused, reply_accepted}
use Rattle.algebraic.specs.Algebraic.{bijective}
use Rattle.algebraic.proofs.Bijections.{bijective_unequal, bijective_equal}
use Rattle.std.specs.Prelude.{Ok}
use Rattle.algebraic.proofs.is_bijective.Goals as goal

decided : (n m : ℕ) (rows : List ℕ) (found : Bool) → first (box_checks n m rows) ≡ Ok tt → bijective n m rows ≡ found
    → figures (as_figure found) ≡ reply_after (first (box_checks n m rows)) (as_figure (bijective n m rows))
decided n m rows found h e = ap (λ (t : Bool). figures (as_figure t)) (sym e) ∙ reply_accepted h _

pub returns-then-n-m : goal.returns-then-n-m
returns-then-n-m c = decided _ _ _ false (sym c.in_ok-check_box.ensures) (bijective_unequal _ _ _ c.if-n-m.true)

pub returns : goal.returns
returns c = decided _ _ _ _ (sym c.in_ok-check_box.ensures) (bijective_equal _ _ _ c.if-n-m.false ∙ sym c.rows_distinct.ensures)
