-- The first x entries are the rows of the enlarged box.
use Rattle.std.proofs.Common.{suc, ◌+◌, ◌*◌, ◌^◌}
use Rattle.boolean.specs.Functions.{at}
use Rattle.boolean.proofs.Filled.{Filled}
use Rattle.constructions.specs.Enlargement.{enlarged}
use Rattle.constructions.proofs.write_box.Given as goal

abbrev pub invariant-loop-x : goal.invariant-loop-x
invariant-loop-x l = Filled 0 (λ y. enlarged l.n (at l.rows) l.k 0 y + enlarged l.n (at l.table) l.k 1 y * 2 ^ l.n) (2 ^ suc l.n) l.x l.out
