-- `constructions::enlarge_column` meets its contract: what the checks found says which case it is, in the answer and in the array.
use mathlib.Core.Path.{sym}
use lib.ListN.{length}
use Rattle.refusals.proofs.Outcomes.{wrote_accepted}
use Rattle.constructions.proofs.Accepted.{column_accepts}
use Rattle.constructions.proofs.enlarge_column.Goals as goal

pub write_column-requires : goal.write_column-requires
write_column-requires c = let a = c.args in column_accepts a.n a.table.now a.k a.a (length a.out.now) (sym c.in_ok-check_column.ensures)

pub returns : goal.returns
returns c = wrote_accepted (sym c.in_ok-check_column.ensures) c.write_column.ensures
