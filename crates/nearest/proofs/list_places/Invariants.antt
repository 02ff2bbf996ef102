-- The pairs at the values before w stand in the list.
use Rattle.nearest.proofs.Loops.{Placing}
use Rattle.nearest.proofs.list_places.Given as goal

abbrev pub invariant-loop-w : goal.invariant-loop-w
invariant-loop-w l = Placing l.c l.size l.values l.start l.fn.list l.next l.list l.w
