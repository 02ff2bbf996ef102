use Rattle.std.proofs.Common.{refl, ap, []}
use Rattle.lines.specs.Lines.{figures_line}
use Rattle.lines.proofs.Texts.{then_text, same_text}
use Rattle.published.specs.Printed.{changes_shown}
use Rattle.published.proofs.show_changes.Goals as goal

pub returns : goal.returns
unfolding changes_shown
returns g c =
    then_text _ _ _ _ _ _ _ c.in_ok-write.ensures.bytes refl
    (then_text _ _ _ _ _ _ _ c.in_ok-show_change.ensures (ap (figures_line []) c.autocorrelation.ensures)
    (then_text _ _ _ _ _ _ _ c.in_ok-write-2.ensures.bytes refl
    (then_text _ _ _ _ _ _ _ c.in_ok-show_change-2.ensures (ap (figures_line []) c.dynamic_distance.ensures)
    (then_text _ _ _ _ _ _ _ c.in_ok-write-3.ensures.bytes refl
    (same_text _ _ _ _ _ c.show_change-3.ensures (ap (figures_line []) c.dynamic_distance-2.ensures))))))
