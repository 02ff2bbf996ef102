-- `sheet::write_autocorrelation` meets its contract: a refused figure stops the sheet, and else its line stands in the text.
use mathlib.Core.Path.{refl, sym, ap, ◌∙◌}
use Rattle.avalanche.specs.Calls.{said_largest_change, autocorrelation_reply}
use Rattle.texts.proofs.Lengths.{line_few}
use Rattle.sheet.proofs.Outcomes.{limited_refused, limited_shown}
use Rattle.sheet.proofs.write_autocorrelation.Goals as goal

pub returns-in_default : goal.returns-in_default
returns-in_default c =
    let reply = sym c.autocorrelation-answer.ensures ∙ ap said_largest_change c.in_default.is in
    (limited_refused "autocorrelation" (autocorrelation_reply _ _ _) c.limit_of-i.ensures reply, refl)

pub returns : goal.returns
returns c =
    let reply = sym c.autocorrelation-answer.ensures ∙ ap said_largest_change c.in-Ok.is in
    let shows = limited_shown "autocorrelation" (autocorrelation_reply _ _ _) c.limit_of-i.ensures reply in
    record { bytes = _; is = shows; short = line_few _ _; stored = c.put_line.ensures }
