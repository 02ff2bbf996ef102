-- A row more: it is the largest so far, or that stays.
use mathlib.Core.Path.{refl}
use Rattle.boolean.specs.Sums.{largest_below}
use Rattle.std.proofs.Common.{arith, add-one}
use Rattle.std.proofs.lemmas.Grind.{common_steps}
use Rattle.boxfile.proofs.largest_row.Goals as goal

pub loop-x-init : goal.loop-x-init
unfolding largest_below
loop-x-init c = refl

pub loop-x-preserved : goal.loop-x-preserved
unfolding largest_below
loop-x-preserved c = grind (arith, common_steps, add-one)
