use Rattle.std.proofs.Common.{arith}
use Rattle.lines.proofs.Texts.{same_text}
use Rattle.boxsheet.proofs.Printed.{start_is}
use Rattle.boxsheet.proofs.print_sheet.Goals as goal

pub returns : goal.returns
returns g c =
    let wrote = c.write_sheet-length.ensures in
    same_text _ _ _ _ _ c.write_all.ensures.bytes
    (start_is _ _ c.write_sheet-length.new.text c.write_sheet-length.result wrote.size (omega (arith, wrote.size, wrote.inside)) wrote.text)
