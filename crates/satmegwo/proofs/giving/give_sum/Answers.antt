-- `satmegwo::giving::give_sum` meets its contract: a refused sum gives the number.
use mathlib.Core.Path.{sym, ap}
use Rattle.rounds.specs.Calls.{said_least_sum}
use Rattle.border.proofs.Giving.{gives_refused, gives_same}
use Rattle.satmegwo.proofs.giving.give_sum.Goals as goal

pub returns-in-Err : goal.returns-in-Err
returns-in-Err c = gives_same (sym (ap (said_least_sum c.args.count) c.in-Err.is)) (gives_refused c.number_of.ensures)
