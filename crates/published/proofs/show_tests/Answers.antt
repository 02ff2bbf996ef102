use Rattle.std.proofs.Common.{refl, ap}
use Rattle.lines.proofs.Texts.{then_text, same_text}
use Rattle.published.specs.Printed.{verdict_text, tests_shown}
use Rattle.published.proofs.show_tests.Goals as goal

pub returns : goal.returns
unfolding tests_shown
returns g c =
    then_text _ _ _ _ _ _ _ c.in_ok-write.ensures.bytes refl
    (then_text _ _ _ _ _ _ _ c.in_ok-show_verdict.ensures (ap verdict_text c.is_complete.ensures)
    (then_text _ _ _ _ _ _ _ c.in_ok-write-2.ensures.bytes refl
    (same_text _ _ _ _ _ c.show_verdict-2.ensures (ap verdict_text c.is_bijective.ensures))))
