use mathlib.Core.Path.{◌≡◌}
use Rattle.boolean.specs.Sums.{largest_below}
use Rattle.boxfile.specs.File.{row_at}
use Rattle.boxfile.proofs.largest_row.Given as goal

abbrev pub invariant-loop-x : goal.invariant-loop-x
invariant-loop-x l = l.most ≡ largest_below l.x (row_at l.file)
