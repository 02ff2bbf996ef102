-- The first x entries are those of the enlarged column.
use Rattle.std.proofs.Common.{suc, ◌^◌}
use Rattle.boolean.specs.Functions.{at}
use Rattle.boolean.proofs.Filled.{Filled}
use Rattle.constructions.specs.Enlargement.{enlarged}
use Rattle.constructions.proofs.write_column.Given as goal

abbrev pub invariant-loop-x : goal.invariant-loop-x
invariant-loop-x l = Filled 0 (λ y. enlarged l.n (at l.table) l.k l.a y) (2 ^ suc l.n) l.x l.out
