-- The cells of the rows before a are counted.
use Rattle.differential.proofs.CellRows.{Counting}
use Rattle.differential.proofs.listing.count_cells.Given as goal

abbrev pub invariant-loop-a : goal.invariant-loop-a
invariant-loop-a l = Counting l.n l.m l.rows l.count l.a
