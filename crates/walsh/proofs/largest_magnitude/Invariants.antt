-- The largest magnitude of the values before the index.
use Rattle.std.proofs.Common.{◌≡◌}
use lib.IntN.{nat_abs}
use Rattle.boolean.specs.Functions.{value_at}
use Rattle.boolean.specs.Sums.{largest_below}
use Rattle.walsh.proofs.largest_magnitude.Given as goal

abbrev pub invariant-loop-value : goal.invariant-loop-value
invariant-loop-value l = l.largest ≡ largest_below l.value-index (λ w. nat_abs (value_at l.values w))
