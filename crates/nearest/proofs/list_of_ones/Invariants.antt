-- The pairs of the masks of k ones below c stand in the list.
use Rattle.std.proofs.Common.{◌-◌}
use Rattle.nearest.proofs.Loops.{Listing}
use Rattle.nearest.proofs.list_of_ones.Given as goal

abbrev pub invariant-loop-c : goal.invariant-loop-c
invariant-loop-c l = Listing l.sought l.rows l.k l.start l.fn.list l.table l.work l.values l.next l.list l.c

abbrev pub decreases-loop-c : goal.decreases-loop-c
decreases-loop-c l = l.masks - l.c
