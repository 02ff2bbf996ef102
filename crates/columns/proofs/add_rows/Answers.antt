-- The new rows are the array's entries.
use Rattle.std.proofs.Common.{rules}
use Rattle.boolean.proofs.Lists.{list_is}
use Rattle.columns.specs.Addition.{added_rows}
use Rattle.columns.proofs.add_rows.Goals as goal

pub returns : goal.returns
unfolding added_rows
returns c = list_is 0 _ _ _ c.loop-x.invariant.0 (search rules)
