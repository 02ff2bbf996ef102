-- The table that is shown is that of the digits.
use Rattle.std.proofs.Common.{ℕ, List, length, ap, ◌∙◌, length-take-le}
use Rattle.boolean.proofs.Lists.{part_is}
use Rattle.lines.proofs.Texts.{same_text}
use Rattle.spectra.specs.Reading.{width_of, digits_of}
use Rattle.spectra.specs.Printed.{table_shown, line_shown}
use Rattle.spectra.proofs.show_line.Goals as goal

pub returns : goal.returns
unfolding line_shown
returns g c =
    let lent = length-take-le c.smaller-length.result _ c.smaller-length.ensures.2 in
    let table = part_is c.read_digits.new.table _ c.smaller-length.result (c.read_digits.auto.table ∙ lent) in
    same_text _ _ _ _ _ c.show_table.ensures
    (ap (λ (t : List ℕ). table_shown (width_of (length t)) t)
    (table ∙ c.read_digits.ensures ∙ ap (digits_of c.args.text.now) (lent ∙ c.smaller-length.ensures.0)))
