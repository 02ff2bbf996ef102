-- `satmegwo::satmegwo_largest_cell` meets its contract: that of the call, with its figures in the lent array.
use mathlib.Core.Path.{sym, ap, ◌∙◌}
use Rattle.differential.specs.Calls.{said_largest_cell}
use Rattle.border.proofs.Giving.{gives_refused, gives_same}
use Rattle.satmegwo.proofs.satmegwo_largest_cell.Goals as goal

pub returns-in-Ok : goal.returns-in-Ok
returns-in-Ok c =
    gives_same (sym (ap said_largest_cell c.in-Ok.is) ∙ c.largest_cell.ensures) c.give.ensures

pub returns-in-Err : goal.returns-in-Err
returns-in-Err c =
    gives_same (sym (ap said_largest_cell c.in-Err.is) ∙ c.largest_cell.ensures) (gives_refused c.number_of.ensures)
