-- The four bytes stand in the part that is written.
use mathlib.Core.Path.{sym, ap, ◌∙◌}
use Rattle.std.proofs.Common.{arith, ◌+◌, ◌-◌, ◌≡◌, length}
use Rattle.std.proofs.lemmas.List.Edits.{sets}
use Rattle.boxfile.specs.File.{row_bytes}
use Rattle.boxfile.proofs.Parts.{written_part}
use Rattle.boxfile.proofs.put_row.Goals as goal

pub returns : goal.returns
unfolding row_bytes
returns c =
    let a = c.args in
    let is = c.copy_from_slice.ensures.after ∙ c.to_le_bytes.ensures in
    let k : a.place + 4 - a.place ≡ 4 = omega arith in
    written_part a.place (a.place + 4 - a.place) a.file.now _ (ap length is ∙ sym k) (omega arith) ∙ ap (sets a.file.now a.place) is
