-- `sheet::write_complete` meets its contract: a refused figure stops the sheet, and else its line stands in the text.
use mathlib.Core.Path.{refl, sym, ap, ◌∙◌}
use borrow.Author.Rules.{rules}
use Rattle.std.specs.Prelude.{Ok}
use Rattle.refusals.specs.Table.{said_verdict}
use Rattle.sheet.proofs.Outcomes.{decided_refused, decided_yes, decided_no}
use Rattle.sheet.proofs.write_complete.Goals as goal

pub returns-in_default : goal.returns-in_default
returns-in_default c = (decided_refused "complete" (sym c.is_complete-answer.ensures ∙ ap said_verdict c.in_default.is), refl)

pub returns-then-yes : goal.returns-then-yes
returns-then-yes c =
    let reply = sym c.is_complete-answer.ensures ∙ ap said_verdict (c.in-Ok.is ∙ ap Ok c.if-yes.true) in
    record { bytes = _; is = decided_yes "complete" reply; short = search rules; stored = c.put_bytes.ensures }

pub returns-else-yes : goal.returns-else-yes
returns-else-yes c =
    let reply = sym c.is_complete-answer.ensures ∙ ap said_verdict (c.in-Ok.is ∙ ap Ok c.if-yes.false) in
    record { bytes = _; is = decided_no "complete" reply; short = search rules; stored = c.put_bytes-else-yes.ensures }
