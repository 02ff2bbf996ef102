use Rattle.std.proofs.Common.{refl}
use Rattle.lines.proofs.Texts.{then_text}
use Rattle.spectra.specs.Printed.{spectrum_shown}
use Rattle.spectra.proofs.show_spectrum.Goals as goal

pub returns : goal.returns
unfolding spectrum_shown
returns g c = then_text _ _ _ _ _ _ _ c.in_ok-write_spectrum.ensures refl c.show_function.ensures
