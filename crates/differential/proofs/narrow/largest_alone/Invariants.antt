-- The running value of the first y rises, and what the buckets hold after them.
use Rattle.std.proofs.Common.{◌≡◌, length}
use Rattle.differential.specs.Running.{LargestSoFar, running_after}
use Rattle.differential.specs.Work.{OwnBuckets}
use Rattle.differential.proofs.narrow.largest_alone.Given as goal

abbrev pub invariant-loop-y : goal.invariant-loop-y
invariant-loop-y l =
    LargestSoFar l.differences l.y l.running
    × (l.running ≡ running_after l.differences l.y)
    × OwnBuckets (length l.fn.buckets) l.differences l.y l.buckets
