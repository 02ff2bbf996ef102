use Prim.Native.Nat.{ℕ, ◌*◌, ◌/◌, ◌%◌, ◌<◌}
use mathlib.Core.Path.{◌≡◌}
use Rattle.boolean.specs.Functions.{at}
use Rattle.packing.specs.Work.{bits_gathered}
use Rattle.packing.proofs.gather_words.Given as goal

abbrev pub invariant-loop-i : goal.invariant-loop-i
invariant-loop-i l = (q : ℕ) → q < l.i * l.size → at l.words q ≡ bits_gathered l.rows (8 * (q % l.size)) 1 (q / l.size)
