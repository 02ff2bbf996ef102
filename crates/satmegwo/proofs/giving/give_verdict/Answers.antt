-- `satmegwo::giving::give_verdict` meets its contract: each case gives its figures, or the number.
use Rattle.std.specs.Prelude.{Ok}
use mathlib.Core.Path.{sym, ap, ◌∙◌}
use Rattle.refusals.specs.Table.{said_verdict}
use Rattle.border.proofs.Giving.{gives_refused, gives_same}
use Rattle.satmegwo.proofs.giving.give_verdict.Goals as goal

pub returns-in-Ok-true : goal.returns-in-Ok-true
returns-in-Ok-true c = gives_same (sym (ap said_verdict (c.in-Ok-true.is ∙ ap Ok c.in-Ok-true.field-0-test))) c.give.ensures

pub returns-in-Ok-false : goal.returns-in-Ok-false
returns-in-Ok-false c = gives_same (sym (ap said_verdict (c.in-Ok-false.is ∙ ap Ok c.in-Ok-false.field-0-test))) c.give-in-Ok-false.ensures

pub returns-in-Err : goal.returns-in-Err
returns-in-Err c = gives_same (sym (ap said_verdict c.in-Err.is)) (gives_refused c.number_of.ensures)
