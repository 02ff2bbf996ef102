-- The table that is shown is what the call left.
use Rattle.std.specs.Prelude.{Ok, Err}
use Rattle.std.proofs.Common.{ap, ◌∙◌, length-take-le}
use Rattle.boolean.proofs.Lists.{part_is}
use Rattle.lines.proofs.Texts.{same_text}
use Rattle.spectra.specs.Printed.{table_text}
use Rattle.spectra.proofs.Printed.{function_is}
use Rattle.spectra.proofs.show_function.Goals as goal

pub returns-in-Ok : goal.returns-in-Ok
returns-in-Ok g c =
    let lent = length-take-le c.smaller-size.result _ c.smaller-size.ensures.2 in
    let table = part_is c.inverse_spectrum.new.table _ c.smaller-size.result (c.inverse_spectrum.auto.table ∙ lent) in
    same_text _ _ _ _ _ c.write_table.ensures
    (ap table_text table
    ∙ function_is c.args.n c.args.values.now _ c.inverse_spectrum.new.table (Ok tt) (lent ∙ c.smaller-size.ensures.0) c.in-Ok.ensures)

pub returns-in-Err : goal.returns-in-Err
returns-in-Err g c =
    let lent = length-take-le c.smaller-size.result _ c.smaller-size.ensures.2 in
    same_text _ _ _ _ _ c.write_refused.ensures
    (function_is c.args.n c.args.values.now _ c.inverse_spectrum.new.table (Err c.in-Err.e) (lent ∙ c.smaller-size.ensures.0)
    c.in-Err.ensures)
