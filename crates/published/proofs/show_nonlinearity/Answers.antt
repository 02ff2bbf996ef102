use Rattle.std.proofs.Common.{ap}
use Rattle.std.specs.Prelude.{codes}
use Rattle.lines.specs.Lines.{reply_line}
use Rattle.lines.proofs.Texts.{same_text}
use Rattle.published.proofs.show_nonlinearity.Goals as goal

pub returns-in-Ok : goal.returns-in-Ok
returns-in-Ok g c = same_text _ _ _ _ _ c.write_line.ensures (ap (reply_line (codes "nonlinearity")) c.in-Ok.ensures)

pub returns-in-Err : goal.returns-in-Err
returns-in-Err g c = same_text _ _ _ _ _ c.write_refused.ensures (ap (reply_line (codes "nonlinearity")) c.in-Err.ensures)
