-- A row that has the largest count has the cells that were counted, and another has none.
use Rattle.std.proofs.Common.{arith}
use Rattle.differential.specs.Work.{IsRow}
use Rattle.differential.proofs.CellRows.{counting_none, counting_more, counting_same, counting_all}
use Rattle.differential.proofs.Measures.{measured_number, measured_other}
use Rattle.differential.proofs.listing.count_cells.Goals as goal
use Rattle.differential.proofs.listing.count_cells.Goals.{then-row-largest, else-row-largest}

pub overflow_add-count : goal.overflow_add-count
overflow_add-count c =
    let box = c.requires.0 in
    let so_far = c.loop-a.invariant in
    omega (arith, so_far.small, (c.requires.1 c.loop-a.a (so_far.a_low, omega (arith, box.size))).few, box.small)

pub loop-a-init : goal.loop-a-init
loop-a-init c = counting_none

pub loop-a-preserved : goal.loop-a-preserved
loop-a-preserved c =
    let box = c.requires.0 in
    let so_far = c.loop-a.invariant in
    let row : IsRow c.args.n c.loop-a.a = (so_far.a_low, omega (arith, box.size)) in
    let measured = c.requires.1 c.loop-a.a row in
    elim c.if-row-largest.branch [
      | then-row-largest w ↦ rw w.count-is (counting_more so_far row.1 _ measured.few (measured_number box measured c.requires.2 w.if-row-largest.true))
      | else-row-largest w ↦ rw w.count-is (counting_same so_far row.1 (measured_other box _ c.requires.2 row measured w.if-row-largest.false))
    ]

pub returns : goal.returns
returns c = counting_all c.requires.0 c.loop-a.invariant (omega (arith, c.requires.0.size))
