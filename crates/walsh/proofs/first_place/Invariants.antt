-- No value before the index has the magnitude.
use Rattle.std.proofs.Common.{◌≡◌, ℕ, ◌<◌}
use lib.IntN.{nat_abs}
use Rattle.boolean.specs.Functions.{value_at}
use Rattle.walsh.proofs.first_place.Given as goal

abbrev pub invariant-loop-w : goal.invariant-loop-w
invariant-loop-w l = (k : ℕ) → k < l.w → nat_abs (value_at l.values k) ≡ l.size → ⊥
