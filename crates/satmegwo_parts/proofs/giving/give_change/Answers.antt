use mathlib.Core.Path.{refl}
use Rattle.border.proofs.Giving.{gives_number}
use Rattle.satmegwo_parts.specs.Exports.{flagged}
use Rattle.satmegwo_parts.proofs.giving.give_change.Goals as goal

pub returns-in-Err : goal.returns-in-Err
unfolding flagged
returns-in-Err c = gives_number (rw c.in-Err.is refl) c.number_of.ensures
