-- `satmegwo::satmegwo_check_box` meets its contract: case by case.
use Rattle.std.specs.Prelude.{Result, ⊤}
use Rattle.refusals.specs.declared.Refusal.{Refusal}
use mathlib.Core.Path.{sym, ap, ◌∙◌}
use mathlib.Core.List.{[]}
use Rattle.refusals.specs.Table.{reply_after}
use Rattle.border.specs.Border.{status}
use Rattle.satmegwo.proofs.satmegwo_check_box.Goals as goal

pub returns-in-Ok : goal.returns-in-Ok
unfolding status
returns-in-Ok c = sym (ap (λ (k : Result ⊤ Refusal). status (reply_after k [])) (sym c.check_box.ensures ∙ c.in-Ok.is))

pub returns-in-Err : goal.returns-in-Err
unfolding status
returns-in-Err c =
    c.number_of.ensures ∙ sym (ap (λ (k : Result ⊤ Refusal). status (reply_after k [])) (sym c.check_box.ensures ∙ c.in-Err.is))
