-- The cells of the runs before y stand in the list.
use Rattle.differential.proofs.Runs.{RunsStored}
use Rattle.differential.proofs.listing.list_runs.Given as goal

abbrev pub invariant-loop-y : goal.invariant-loop-y
invariant-loop-y l = RunsStored l.largest l.a l.pairs l.start l.fn.list l.next l.list l.y
