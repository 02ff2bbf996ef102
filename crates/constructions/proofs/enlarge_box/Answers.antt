-- `constructions::enlarge_box` meets its contract: what the checks found says which case it is, in the answer and in the array.
use mathlib.Core.Path.{sym}
use lib.ListN.{length}
use Rattle.refusals.proofs.Outcomes.{wrote_accepted}
use Rattle.constructions.proofs.Accepted.{box_accepts}
use Rattle.constructions.proofs.enlarge_box.Goals as goal

pub write_box-requires : goal.write_box-requires
write_box-requires c = let a = c.args in box_accepts a.n a.rows.now a.table.now a.k (length a.out.now) (sym c.in_ok-check_enlarge.ensures)

pub returns : goal.returns
returns c = wrote_accepted (sym c.in_ok-check_enlarge.ensures) c.write_box.ensures
