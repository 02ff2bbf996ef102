-- The largest sum of two magnitudes at the places before k.
use Rattle.std.proofs.Common.{◌≡◌, ◌+◌}
use lib.IntN.{nat_abs}
use Rattle.boolean.specs.Functions.{value_at}
use Rattle.boolean.specs.Sums.{largest_below}
use Rattle.walsh.proofs.narrow.largest_sum.Given as goal

abbrev pub invariant-loop-k : goal.invariant-loop-k
invariant-loop-k l = l.largest ≡ largest_below l.k (λ k. nat_abs (value_at l.values k) + nat_abs (value_at l.values (l.h + k)))
