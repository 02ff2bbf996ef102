use Prim.Native.Nat.{ℕ, ◌+◌, ◌*◌, ◌/◌, ◌%◌, ◌<◌}
use mathlib.Core.Path.{◌≡◌}
use Rattle.boolean.specs.Functions.{at}
use Rattle.packing.specs.Work.{bits_gathered}
use Rattle.packing.proofs.gather_group.Given as goal

abbrev pub invariant-loop-y : goal.invariant-loop-y
invariant-loop-y l = (q : ℕ) → q < l.i * l.size + l.y → at l.words q ≡ bits_gathered l.rows (8 * (q % l.size)) 1 (q / l.size)
