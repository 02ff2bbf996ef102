-- The running value of the first y rises, how many differences have its count, and what the buckets hold after them.
use Rattle.differential.specs.Running.{InRow}
use Rattle.differential.specs.Work.{RunningCells, Buckets}
use Rattle.differential.proofs.listing.measure_row.Given as goal

abbrev pub invariant-loop-y : goal.invariant-loop-y
invariant-loop-y l = InRow l.a (λ value. RunningCells l.differences l.y value l.cells) l.running × Buckets l.a l.differences l.y l.buckets
