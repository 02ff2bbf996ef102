-- The inputs so far are counted.
use Rattle.std.proofs.Common.{◌≡◌}
use Rattle.std.specs.Prelude.{eqb}
use Rattle.boolean.specs.Bits.{dot}
use Rattle.boolean.specs.Functions.{at}
use Rattle.boolean.specs.Sums.{count_below}
use Rattle.walsh.proofs.value.Given as goal

abbrev pub invariant-loop-x : goal.invariant-loop-x
invariant-loop-x l = l.count ≡ count_below l.x (λ x. eqb (at l.table x) (dot l.w x))
