-- The running value is the largest of the rows before the index.
use Rattle.std.proofs.Common.{◌≡◌}
use Rattle.boolean.specs.Functions.{at}
use Rattle.boolean.specs.Sums.{largest_below}
use Rattle.refusals.proofs.largest_row.Given as goal

abbrev pub invariant-loop-row : goal.invariant-loop-row
invariant-loop-row l = l.most ≡ largest_below l.row-index (at l.fn.rows)
