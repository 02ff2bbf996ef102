-- So many numbers of the part stand in the array.
use lib.ListN.{length}
use Rattle.boolean.specs.Functions.{at}
use Rattle.boolean.proofs.Filled.{Filled}
use Rattle.satmegwo_parts.proofs.write_part.Given as goal

abbrev pub invariant-loop-k : goal.invariant-loop-k
invariant-loop-k l = Filled 0 (at l.part) (length l.part) l.k l.merged
