use Rattle.std.proofs.Common.{ap, subst}
use Rattle.std.specs.Prelude.{codes}
use Rattle.std.specs.Io.KnownBytes.{Appends}
use Rattle.std.proofs.KnownBytes.{Appends-nil}
use Rattle.lines.specs.Lines.{figures_line}
use Rattle.lines.proofs.Texts.{same_text}
use Rattle.published.proofs.show_largest_cell.Goals as goal

pub returns-in-Ok : goal.returns-in-Ok
returns-in-Ok g c = same_text _ _ _ _ _ c.write_line.ensures (ap (figures_line (codes "xor")) c.in-Ok.ensures)

pub returns-in-Err : goal.returns-in-Err
returns-in-Err g c = subst (Appends _ _) (ap (figures_line (codes "xor")) c.in-Err.ensures) (Appends-nil _)
