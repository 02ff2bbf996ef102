-- `constructions::bent_function` meets its contract: what the checks found says which case it is, in the answer and in the array.
use mathlib.Core.Path.{sym}
use lib.ListN.{length}
use Rattle.refusals.proofs.Outcomes.{wrote_accepted}
use Rattle.constructions.proofs.Accepted.{bent_accepts}
use Rattle.constructions.proofs.bent_function.Goals as goal

pub write_bent-requires : goal.write_bent-requires
write_bent-requires c = let a = c.args in bent_accepts a.n a.permutation.now a.table.now (length a.out.now) (sym c.in_ok-check_bent.ensures)

pub returns : goal.returns
returns c = wrote_accepted (sym c.in_ok-check_bent.ensures) c.write_bent.ensures
