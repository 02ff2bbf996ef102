-- `satmegwo::satmegwo_fetch_record` meets its contract: that of the call, with its figures in the lent array.
use mathlib.Core.Path.{sym, ap, ◌∙◌}
use Rattle.catalogue.specs.Calls.{said_fetched}
use Rattle.border.proofs.Giving.{gives_refused, gives_same}
use Rattle.satmegwo.proofs.satmegwo_fetch_record.Goals as goal

pub returns-in-Ok : goal.returns-in-Ok
returns-in-Ok c =
    gives_same (sym (ap said_fetched c.in-Ok.is) ∙ c.fetch_status.ensures) c.give.ensures

pub returns-in-Err : goal.returns-in-Err
returns-in-Err c =
    gives_same (sym (ap said_fetched c.in-Err.is) ∙ c.fetch_status.ensures) (gives_refused c.number_of.ensures)
