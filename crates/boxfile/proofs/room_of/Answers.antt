-- Where n is a box's the room is 2^n, and else there is none.
use mathlib.Core.Path.{sym, ◌∙◌}
use native.Mathlib.Omega.{arith}
use Rattle.boxfile.proofs.FileRoom.{room_of_empty, room_of_none, room_of_rows, room_small}
use Rattle.boxfile.proofs.room_of.Goals as goal

pub returns-then-file-eq0 : goal.returns-then-file-eq0
returns-then-file-eq0 c = (sym (room_of_empty _ c.if-file-eq0.true), omega arith)

pub returns-then-not-in_range : goal.returns-then-not-in_range
returns-then-not-in_range c = (sym (room_of_none _ (sym c.in_range.ensures ∙ c.if-not-in_range.true)), omega arith)

pub returns : goal.returns
returns c =
    let file = c.args.file.now in
    let is = c.power_of_two.ensures.0 ∙ sym (room_of_rows file (sym c.in_range.ensures ∙ c.if-not-in_range.false)) in
    (is, omega (arith, is, room_small file))
