-- The running value of the first y rises, and what the buckets hold after them.
use Rattle.std.proofs.Common.{◌≡◌}
use Rattle.differential.specs.Running.{LargestSoFar, number_in, InRow, running_after}
use Rattle.differential.specs.Work.{Buckets}
use Rattle.differential.proofs.largest_risen.Given as goal

abbrev pub invariant-loop-y : goal.invariant-loop-y
invariant-loop-y l =
    InRow l.a (LargestSoFar l.differences l.y) l.running
    × (l.running ≡ number_in l.a (running_after l.differences l.y))
    × Buckets l.a l.differences l.y l.buckets
