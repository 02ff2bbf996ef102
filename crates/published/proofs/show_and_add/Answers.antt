use Rattle.std.proofs.Common.{refl}
use Rattle.lines.proofs.Texts.{then_text}
use Rattle.published.specs.Printed.{and_second_shown}
use Rattle.published.proofs.show_and_add.Goals as goal

pub returns : goal.returns
unfolding and_second_shown
returns g c = then_text _ _ _ _ _ _ _ c.in_ok-show_nonlinearity.ensures refl c.show_second.ensures
