-- The pairs of the masks of fewer than k ones stand in the list.
use Rattle.nearest.proofs.Loops.{Rising}
use Rattle.nearest.proofs.list_all.Given as goal

abbrev pub invariant-loop-k : goal.invariant-loop-k
invariant-loop-k l = Rising l.sought l.rows l.fn.list l.table l.work l.values l.next l.list l.k
