-- The rows that are shown are those that the call left.
use Rattle.std.specs.Prelude.{Ok, Err}
use Rattle.std.proofs.Common.{ap, ◌∙◌, length-take-le}
use Rattle.boolean.proofs.Lists.{part_is}
use Rattle.lines.proofs.Texts.{same_text}
use Rattle.published.specs.Printed.{box_shown}
use Rattle.published.proofs.Printed.{file_is}
use Rattle.published.proofs.show_file.Goals as goal

pub returns-in-Ok : goal.returns-in-Ok
returns-in-Ok g c =
    let lent = length-take-le c.args.size _ c.requires in
    let rows = part_is c.read_box.new.rows _ c.args.size (c.read_box.auto.rows ∙ lent) in
    same_text _ _ _ _ _ c.show_box.ensures
    (ap (box_shown c.in-Ok.field-0.n c.in-Ok.field-0.m) rows
    ∙ file_is c.args.file.now c.args.size _ c.read_box.new.rows (Ok c.in-Ok.field-0) lent c.in-Ok.ensures)

pub returns-in-Err : goal.returns-in-Err
returns-in-Err g c =
    same_text _ _ _ _ _ c.write_refused.ensures
    (file_is c.args.file.now c.args.size _ c.read_box.new.rows (Err c.in-Err.e) (length-take-le c.args.size _ c.requires) c.in-Err.ensures)
