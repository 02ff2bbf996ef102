-- The first buckets hold the standings with a count of 0.
use Rattle.std.proofs.Common.{◌≡◌, ℕ, ◌-◌, ◌<◌, get_or}
use Rattle.differential.proofs.narrow.clear_buckets.Given as goal

abbrev pub invariant-loop-beta : goal.invariant-loop-beta
invariant-loop-beta l = (k : ℕ) → k < l.beta → get_or l.buckets k 0 ≡ 4294967295 - k
