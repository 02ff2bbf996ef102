-- The count is that of the differences before the index.
use Rattle.std.proofs.Common.{length}
use Rattle.std.proofs.Common.{eqb}
use Rattle.boolean.specs.Functions.{at}
use Rattle.boolean.proofs.Counted.{Counted}
use Rattle.differential.proofs.count_equal.Given as goal

abbrev pub invariant-loop-difference : goal.invariant-loop-difference
invariant-loop-difference l = Counted (length l.differences) (λ x. eqb (at l.differences x) l.beta) l.difference-index l.count
