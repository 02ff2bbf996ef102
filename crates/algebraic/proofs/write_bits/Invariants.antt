use Rattle.std.proofs.Common.{length}
use Rattle.boolean.specs.Functions.{at}
use Rattle.boolean.proofs.Filled.{Filled}
use Rattle.algebraic.proofs.write_bits.Given as goal

abbrev pub invariant-loop-x : goal.invariant-loop-x
invariant-loop-x l = Filled 0 (at l.words) (length l.words) l.x l.out
