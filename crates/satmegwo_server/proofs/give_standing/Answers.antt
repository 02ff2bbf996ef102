use mathlib.Core.Path.{refl}
use Rattle.border.proofs.Giving.{gives_number}
use Rattle.satmegwo_server.proofs.give_standing.Goals as goal

pub returns-in-Err : goal.returns-in-Err
returns-in-Err c = gives_number (rw c.in-Err.is refl) c.number_of.ensures
