use Prim.Native.Nat.{ℕ, ◌*◌, ◌<◌}
use mathlib.Core.Path.{◌≡◌}
use Rattle.boolean.specs.Functions.{at}
use Rattle.packing.specs.Work.{word_byte}
use Rattle.packing.proofs.write_columns.Given as goal

abbrev pub invariant-loop-j : goal.invariant-loop-j
invariant-loop-j l = (p : ℕ) → p < l.j * l.size → at l.out p ≡ word_byte l.words l.size p
