-- Each row's cells are stored after those of the rows before.
use Rattle.std.proofs.Common.{arith}
use Rattle.differential.specs.Work.{IsRow}
use Rattle.differential.proofs.CellRows.{storing_none, storing_room, storing_next, storing_all}
use Rattle.differential.proofs.listing.list_cells.Goals as goal

pub loop-a-init : goal.loop-a-init
loop-a-init c = storing_none

pub list_row-next-requires : goal.list_row-next-requires
list_row-next-requires c =
    let box = c.requires.0 in
    let stored = c.loop-a.invariant in
    let row : IsRow c.args.n c.loop-a.a = (stored.a_low, omega (arith, box.size)) in
    (box, row, c.requires.1 _ row, c.requires.2, storing_room stored row.1 c.requires.3)

pub loop-a-preserved : goal.loop-a-preserved
loop-a-preserved c =
    storing_next c.loop-a.invariant (omega (arith, c.requires.0.size)) c.list_row-next.ensures.0 c.list_row-next.ensures.1

pub returns : goal.returns
returns c = storing_all c.loop-a.invariant (omega (arith, c.requires.0.size))
