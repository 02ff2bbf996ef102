-- The checks of the boxes from one on are what is left of all.
use Rattle.std.proofs.Common.{◌≡◌, drop}
use Rattle.boolean.specs.Sums.{each}
use Rattle.refusals.specs.Table.{first}
use Rattle.rounds.specs.Round.{summand_checks}
use Rattle.rounds.specs.Work.{summed}
use Rattle.rounds.proofs.check_boxes.Given as goal

abbrev pub invariant-loop-s : goal.invariant-loop-s
invariant-loop-s l = first (each (drop l.s-index (summed l.boxes)) summand_checks) ≡ first (each (summed l.boxes) summand_checks)
