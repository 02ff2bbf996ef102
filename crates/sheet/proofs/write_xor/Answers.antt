-- `sheet::write_xor` meets its contract: a refused figure stops the sheet, and else its line stands in the text.
use mathlib.Core.Path.{refl, sym, ap, ◌∙◌}
use Rattle.differential.specs.Calls.{said_largest_cell}
use Rattle.texts.proofs.Lengths.{line_few}
use Rattle.sheet.proofs.Outcomes.{numbers_refused, numbers_shown}
use Rattle.sheet.proofs.write_xor.Goals as goal

pub returns-in_default : goal.returns-in_default
returns-in_default c = (numbers_refused "xor" (sym c.largest_cell-answer.ensures ∙ ap said_largest_cell c.in_default.is), refl)

pub returns : goal.returns
returns c =
    let reply = sym c.largest_cell-answer.ensures ∙ ap said_largest_cell c.in-Ok.is in
    record { bytes = _; is = numbers_shown "xor" reply; short = line_few _ _; stored = c.put_line.ensures }
