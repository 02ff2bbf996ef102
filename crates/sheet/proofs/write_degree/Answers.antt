-- `sheet::write_degree` meets its contract: a refused figure stops the sheet, and else its line stands in the text.
use mathlib.Core.Path.{refl, sym, ap, ◌∙◌}
use Rattle.algebraic.specs.Calls.{said_degree_found, box_degree_reply}
use Rattle.texts.proofs.Lengths.{line_few}
use Rattle.sheet.proofs.Outcomes.{limited_refused, limited_shown}
use Rattle.sheet.proofs.write_degree.Goals as goal

pub returns-in_default : goal.returns-in_default
returns-in_default c =
    let reply = sym c.degree-answer.ensures ∙ ap said_degree_found c.in_default.is in
    (limited_refused "degree" (box_degree_reply _ _ _) c.limit_of-i.ensures reply, refl)

pub returns : goal.returns
returns c =
    let reply = sym c.degree-answer.ensures ∙ ap said_degree_found c.in-Ok.is in
    let shows = limited_shown "degree" (box_degree_reply _ _ _) c.limit_of-i.ensures reply in
    record { bytes = _; is = shows; short = line_few _ _; stored = c.put_line.ensures }
