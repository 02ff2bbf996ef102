-- The first x values are sums, and the others as they were.
use Rattle.std.specs.Int.Bits.{bit_xor}
use Rattle.boolean.specs.Functions.{at}
use Rattle.boolean.proofs.Replaced.{Replaced}
use Rattle.masks.proofs.add_table.Given as goal

abbrev pub invariant-loop-x : goal.invariant-loop-x
invariant-loop-x l = Replaced 0 (λ x value. bit_xor value (at l.other x)) l.fn.table l.x l.table
