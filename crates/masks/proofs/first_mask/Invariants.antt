-- Every number before r has more ones than the limit, and r rises.
use Rattle.std.proofs.Common.{◌-◌}
use Rattle.masks.proofs.FirstMask.{Searched}
use Rattle.masks.proofs.first_mask.Given as goal

abbrev pub invariant-loop-r : goal.invariant-loop-r
invariant-loop-r l = Searched l.limit l.c l.r

abbrev pub decreases-loop-r : goal.decreases-loop-r
decreases-loop-r l = 4294967296 - l.r
