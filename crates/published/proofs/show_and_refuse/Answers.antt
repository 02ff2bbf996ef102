use Rattle.std.proofs.Common.{refl}
use Rattle.lines.proofs.Texts.{then_text}
use Rattle.published.specs.Printed.{and_refused_shown}
use Rattle.published.proofs.show_and_refuse.Goals as goal

pub returns : goal.returns
unfolding and_refused_shown
returns g c = then_text _ _ _ _ _ _ _ c.in_ok-show_nonlinearity.ensures refl c.show_refused.ensures
