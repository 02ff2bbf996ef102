use Prim.Native.Nat.{ℕ, ◌+◌, ◌*◌, ◌<◌}
use mathlib.Core.Path.{◌≡◌}
use Rattle.boolean.specs.Functions.{at}
use Rattle.packing.specs.Work.{word_byte}
use Rattle.packing.proofs.write_column.Given as goal

abbrev pub invariant-loop-y : goal.invariant-loop-y
invariant-loop-y l = (p : ℕ) → p < l.j * l.size + l.y → at l.out p ≡ word_byte l.words l.size p
