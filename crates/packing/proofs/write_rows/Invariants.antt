use Prim.Native.Nat.{ℕ, ◌/◌, ◌%◌, ◌<◌}
use mathlib.Core.Path.{◌≡◌}
use Rattle.boolean.specs.Functions.{at}
use Rattle.packing.specs.Work.{bits_gathered}
use Rattle.packing.proofs.write_rows.Given as goal

abbrev pub invariant-loop-x : goal.invariant-loop-x
invariant-loop-x l = (k : ℕ) → k < l.x → at l.out k ≡ bits_gathered l.words (k / 8) l.size (k % 8)
