use Rattle.std.proofs.Common.{refl}
use Rattle.lines.proofs.Texts.{then_text}
use Rattle.spectra.specs.Printed.{values_shown}
use Rattle.spectra.proofs.show_values.Goals as goal

pub returns : goal.returns
unfolding values_shown
returns g c =
    then_text _ _ _ _ _ _ _ c.in_ok-show_function.ensures refl
    (then_text _ _ _ _ _ _ _ c.in_ok-show_function-2.ensures refl
    (then_text _ _ _ _ _ _ _ c.in_ok-show_function-3.ensures refl
    (then_text _ _ _ _ _ _ _ c.in_ok-show_function-4.ensures refl
    (then_text _ _ _ _ _ _ _ c.in_ok-show_function-5.ensures refl
    (then_text _ _ _ _ _ _ _ c.in_ok-show_function-6.ensures refl
    (then_text _ _ _ _ _ _ _ c.in_ok-show_function-7.ensures refl c.show_function-8.ensures))))))
