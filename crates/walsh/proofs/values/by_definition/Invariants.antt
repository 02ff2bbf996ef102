-- The values so far are those of the definition.
use Rattle.std.proofs.Common.{◌≡◌, ℕ, ◌<◌, get_or}
use Rattle.boolean.specs.Functions.{at, approximation}
use Rattle.walsh.proofs.values.by_definition.Given as goal

abbrev pub invariant-loop-w : goal.invariant-loop-w
invariant-loop-w g l = let v = g.T.Value in (k : ℕ) → k < l.w → v.whole (get_or l.out k v.zero) ≡ approximation l.n (at l.table) k
