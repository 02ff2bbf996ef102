-- `sheet::write_read` meets its contract: what reading the file replied says which sheet it is.
use mathlib.Core.Path.{sym, ap, ◌∙◌}
use Rattle.refusals.specs.Table.{refusal}
use Rattle.boxfile.specs.File.{said_box_file}
use Rattle.sheet.proofs.Sheets.{reply_with_room, rows_with_room, sheet_of_box, wrote_sheet, wrote_refused}
use Rattle.sheet.proofs.write_read.Goals as goal

pub returns-in-Ok : goal.returns-in-Ok
returns-in-Ok c =
    let file = c.args.file.now in
    let reply = sym (c.read_box.ensures.reply ∙ reply_with_room file c.requires.0) ∙ ap said_box_file c.in-Ok.is in
    let rows = c.read_box.ensures.content ∙ rows_with_room file c.requires.0 reply c.args.rows.now in
    (wrote_sheet file (sheet_of_box file reply rows) c.write_lines.ensures, c.read_box.auto.rows)

pub returns-in-Err : goal.returns-in-Err
returns-in-Err c =
    let file = c.args.file.now in
    let reply = sym (c.read_box.ensures.reply ∙ reply_with_room file c.requires.0) ∙ ap said_box_file c.in-Err.is
    ∙ ap refusal (sym c.number_of.ensures) in
    (wrote_refused file c.args.text.now reply c.put_line.ensures.0 c.put_line.ensures.1, c.read_box.auto.rows)
