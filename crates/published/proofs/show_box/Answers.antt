use Rattle.std.proofs.Common.{refl}
use Rattle.lines.proofs.Texts.{then_text}
use Rattle.published.specs.Printed.{box_shown}
use Rattle.published.proofs.show_box.Goals as goal

pub returns : goal.returns
unfolding box_shown
returns g c =
    then_text _ _ _ _ _ _ _ c.in_ok-write_line.ensures refl
    (then_text _ _ _ _ _ _ _ c.in_ok-show_nonlinearity.ensures refl
    (then_text _ _ _ _ _ _ _ c.in_ok-show_largest_cell.ensures refl
    (then_text _ _ _ _ _ _ _ c.in_ok-show_changes.ensures refl
    (then_text _ _ _ _ _ _ _ c.in_ok-show_degree.ensures refl c.show_first.ensures))))
