-- The values that are shown are what the call left.
use Rattle.std.specs.Prelude.{Ok, Err}
use Rattle.std.proofs.Common.{ℕ, ap, ◌∙◌, length-take-le}
use Rattle.boolean.proofs.Lists.{part_is}
use Rattle.lines.proofs.Texts.{same_text}
use Rattle.spectra.specs.Printed.{spectrum_shown, table_shown}
use Rattle.spectra.proofs.Printed.{table_is}
use Rattle.spectra.proofs.show_table.Goals as goal

pub returns-in-Ok : goal.returns-in-Ok
returns-in-Ok g c =
    let lent = length-take-le c.smaller-size.result _ c.smaller-size.ensures.2 in
    let values = part_is c.spectrum.new.out _ c.smaller-size.result (c.spectrum.auto.out ∙ lent) in
    same_text _ _ _ _ _ c.show_spectrum.ensures
    (ap (spectrum_shown c.width_of-n.result) values
    ∙ table_is c.width_of-n.result c.args.table.now _ c.spectrum.new.out (Ok tt) (lent ∙ c.smaller-size.ensures.0) c.in-Ok.ensures
    ∙ ap (λ (n : ℕ). table_shown n c.args.table.now) c.width_of-n.ensures)

pub returns-in-Err : goal.returns-in-Err
returns-in-Err g c =
    let lent = length-take-le c.smaller-size.result _ c.smaller-size.ensures.2 in
    same_text _ _ _ _ _ c.write_refused.ensures
    (table_is c.width_of-n.result c.args.table.now _ c.spectrum.new.out (Err c.in-Err.e) (lent ∙ c.smaller-size.ensures.0) c.in-Err.ensures
    ∙ ap (λ (n : ℕ). table_shown n c.args.table.now) c.width_of-n.ensures)
