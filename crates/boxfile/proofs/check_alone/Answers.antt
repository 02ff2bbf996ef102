-- `boxfile::check_alone` meets its contract: the room is one with which the checks find what they find with 2^n.
use mathlib.Core.Path.{ap, ◌∙◌}
use Prim.Native.Nat.{ℕ}
use Rattle.refusals.specs.Table.{first}
use Rattle.boxfile.specs.File.{file_checks}
use Rattle.boxfile.proofs.FileRoom.{room_same}
use Rattle.std.specs.Prelude.{Ok}
use mathlib.Core.Path.{sym}
use Rattle.boxfile.proofs.check_alone.Goals as goal

pub returns : goal.returns
returns c =
    let file = c.args.file.now in
    c.check_file.ensures ∙ ap (λ (room : ℕ). first (file_checks file room)) c.room_of-rows.ensures.0 ∙ room_same file
