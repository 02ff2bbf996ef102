-- The record's line, then that of where it lies, then those of its box.
use Rattle.std.proofs.Common.{refl, ap}
use Rattle.std.specs.Prelude.{codes}
use Rattle.lines.specs.Lines.{reply_line}
use Rattle.lines.proofs.Texts.{then_text, same_text}
use Rattle.fetched.specs.Printed.{file_shown, record_shown}
use Rattle.fetched.proofs.show_record.Goals as goal

pub returns : goal.returns
unfolding record_shown
returns g c =
    then_text _ _ _ _ _ _ _ c.in_ok-write_line.ensures refl
    (then_text _ _ _ _ _ _ _ c.in_ok-show_fetched.ensures (ap (reply_line (codes "at")) c.fetch_status.ensures)
    (same_text _ _ _ _ _ c.show_file.ensures (ap file_shown c.fetch.ensures.content)))
