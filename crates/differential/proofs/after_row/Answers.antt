-- The standing has its count and its difference.
use Rattle.std.proofs.Common.{sym}
use Rattle.differential.specs.Work.{cell_found}
use Rattle.differential.proofs.Rises.{standing_stays, standing_counts}
use Rattle.differential.proofs.after_row.Goals as goal

pub returns-then-count-found : goal.returns-then-count-found
returns-then-count-found c = let a = c.args in sym (standing_stays a.a a.best (cell_found a.found) c.if-count-found.true)

pub returns : goal.returns
returns c = let a = c.args in sym (standing_counts a.a a.best (cell_found a.found) c.if-count-found.false)
