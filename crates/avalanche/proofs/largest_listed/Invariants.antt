use Rattle.std.proofs.Common.{◌≡◌, nat_abs}
use Rattle.boolean.specs.Functions.{at, value_at}
use Rattle.boolean.specs.Sums.{largest_below}
use Rattle.avalanche.proofs.largest_listed.Given as goal

abbrev pub invariant-loop-s : goal.invariant-loop-s
invariant-loop-s l = l.largest ≡ largest_below l.s-index (λ k. nat_abs (value_at l.values (at l.list k)))
