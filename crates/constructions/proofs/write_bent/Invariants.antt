-- The first z entries are those of the bent function.
use Rattle.std.proofs.Common.{◌/◌, ◌^◌}
use Rattle.boolean.proofs.Filled.{Filled}
use Rattle.constructions.specs.BentForm.{bent_form}
use Rattle.constructions.proofs.write_bent.Given as goal

abbrev pub invariant-loop-z : goal.invariant-loop-z
invariant-loop-z l = Filled 0 (λ y. bent_form (l.n / 2) l.permutation l.table y) (2 ^ l.n) l.z l.out
