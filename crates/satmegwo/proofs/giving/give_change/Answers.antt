-- `satmegwo::giving::give_change` meets its contract: each case gives its figures, or the number.
use mathlib.Core.Path.{sym, ap}
use Rattle.avalanche.specs.Calls.{said_largest_change}
use Rattle.border.proofs.Giving.{gives_refused, gives_same}
use Rattle.satmegwo.proofs.giving.give_change.Goals as goal

pub returns-in-Ok : goal.returns-in-Ok
returns-in-Ok c =
    gives_same (sym (ap said_largest_change c.in-Ok.is)) c.give.ensures

pub returns-in-Err : goal.returns-in-Err
returns-in-Err c = gives_same (sym (ap said_largest_change c.in-Err.is)) (gives_refused c.number_of.ensures)
