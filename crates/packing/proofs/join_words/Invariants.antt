use Prim.Native.Nat.{ℕ, ◌<◌}
use mathlib.Core.Path.{◌≡◌}
use Rattle.boolean.specs.Functions.{at}
use Rattle.packing.specs.Work.{four_bytes_at}
use Rattle.packing.proofs.join_words.Given as goal

abbrev pub invariant-loop-q : goal.invariant-loop-q
invariant-loop-q l = (k : ℕ) → k < l.q → at l.words k ≡ four_bytes_at l.bytes l.size k
