-- The counts of the differences are the row.
use Rattle.std.proofs.Common.{sym, ◌∙◌}
use Rattle.differential.proofs.Sweeps.{box_inside}
use Rattle.sorting.proofs.Tallies.{cleared_length, tally_ready}
use Rattle.differential.proofs.Tallies.{differences_ready, row_is}
use Rattle.differential.proofs.write_row.Goals as goal

pub write_differences-requires : goal.write_differences-requires
write_differences-requires c = let pre = c.requires in (box_inside pre.0.box pre.1, pre.0.size ∙ sym pre.0.box.size)

pub count_values-requires : goal.count_values-requires
count_values-requires c =
    let values = differences_ready c.requires.0.box c.args.a c.write_differences.ensures in
    tally_ready _ c.requires.2 c.clear.ensures values.0 values.1

pub returns : goal.returns
returns c =
    let values = c.write_differences.ensures in
    (row_is c.requires.0.box c.args.a (cleared_length _ c.requires.2 c.clear.ensures) values c.count_values.ensures, values)
