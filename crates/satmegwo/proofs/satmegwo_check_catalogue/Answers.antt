-- `satmegwo::satmegwo_check_catalogue` meets its contract: that of the call, with its figures in the lent array.
use mathlib.Core.Path.{sym, ap, ◌∙◌}
use Rattle.catalogue.specs.Calls.{said_told}
use Rattle.border.proofs.Giving.{gives_refused, gives_same}
use Rattle.satmegwo.proofs.satmegwo_check_catalogue.Goals as goal

pub returns-in-Ok : goal.returns-in-Ok
returns-in-Ok c =
    gives_same (sym (ap said_told c.in-Ok.is) ∙ c.check.ensures) c.give.ensures

pub returns-in-Err : goal.returns-in-Err
returns-in-Err c =
    gives_same (sym (ap said_told c.in-Err.is) ∙ c.check.ensures) (gives_refused c.number_of.ensures)
