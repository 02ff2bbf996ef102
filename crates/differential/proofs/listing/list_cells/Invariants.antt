-- The cells of the rows before a stand in the list.
use Rattle.differential.proofs.CellRows.{Storing}
use Rattle.differential.proofs.listing.list_cells.Given as goal

abbrev pub invariant-loop-a : goal.invariant-loop-a
invariant-loop-a l = Storing l.n l.m l.rows l.fn.list l.next l.list l.a
