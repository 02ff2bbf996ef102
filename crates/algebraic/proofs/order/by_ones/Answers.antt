use mathlib.Core.Path.{refl}
use lib.Count.{ones, ones_in}
use Rattle.boolean.specs.Sums.{every, list_from, list_below}
use Rattle.algebraic.proofs.FallingOnes.{falls, stands, by_ones}
use Rattle.algebraic.proofs.order.by_ones.Goals as goal

pub returns : goal.returns
unfolding falls stands every list_below list_from ones ones_in
returns c = by_ones _ refl refl refl
