-- A byte of the file more stands in the buffer.
use mathlib.Core.Path.{refl}
use native.Mathlib.Omega.{arith}
use Rattle.catalogue.proofs.Moves.{storing_none, storing_next, storing_all}
use Rattle.catalogue.proofs.copy_in.Goals as goal

pub loop-i-init : goal.loop-i-init
loop-i-init c = storing_none _ _ _

pub loop-i-preserved : goal.loop-i-preserved
loop-i-preserved c = storing_next c.loop-i.invariant c.loop-i-test.true _ refl

pub returns : goal.returns
returns c = storing_all c.loop-i.invariant (omega (arith, c.loop-i-test.false))
