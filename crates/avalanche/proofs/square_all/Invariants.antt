use Rattle.std.proofs.Common.{ℕ, ℤ, List, length, pos, ◌+ℤ◌}
use Rattle.boolean.specs.Functions.{value_at, square}
use Rattle.boolean.proofs.Filled.{Filled}
use Rattle.avalanche.proofs.square_all.Given as goal

abbrev pub squared : List ℤ → ℕ → ℤ
squared values k = pos (square (value_at values k +ℤ value_at values k))

abbrev pub invariant-loop-k : goal.invariant-loop-k
invariant-loop-k l = Filled (pos 0) (squared l.values) (length l.values) l.k l.squares
