-- The first x entries of the table are the signs.
use Rattle.std.proofs.Common.{length}
use Rattle.boolean.specs.Functions.{value_at, sign_bit}
use Rattle.boolean.proofs.Filled.{Filled}
use Rattle.walsh.proofs.write_signs.Given as goal

abbrev pub invariant-loop-x : goal.invariant-loop-x
invariant-loop-x l = Filled 0 (λ k. sign_bit (value_at l.values k)) (length l.values) l.x l.table
