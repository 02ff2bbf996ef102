-- `sheet::write_nonlinearity` meets its contract: a refused figure stops the sheet, and else its line stands in the text.
use mathlib.Core.Path.{refl, sym, ap, ◌∙◌}
use Rattle.linear.specs.Calls.{said_least_pair}
use Rattle.linear.specs.Nonlinearity.{nonlinearity_reply}
use Rattle.texts.proofs.Lengths.{line_few}
use Rattle.sheet.proofs.Outcomes.{limited_refused, limited_shown}
use Rattle.sheet.proofs.write_nonlinearity.Goals as goal

pub returns-in_default : goal.returns-in_default
returns-in_default c =
    let reply = sym c.nonlinearity-answer.ensures ∙ ap said_least_pair c.in_default.is in
    (limited_refused "nonlinearity" (nonlinearity_reply _ _ _) c.limit_of-i.ensures reply, refl)

pub returns : goal.returns
returns c =
    let reply = sym c.nonlinearity-answer.ensures ∙ ap said_least_pair c.in-Ok.is in
    let shows = limited_shown "nonlinearity" (nonlinearity_reply _ _ _) c.limit_of-i.ensures reply in
    record { bytes = _; is = shows; short = line_few _ _; stored = c.put_line.ensures }
