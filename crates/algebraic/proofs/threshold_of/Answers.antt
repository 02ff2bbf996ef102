use Rattle.std.proofs.Common.{sym, arith}
use Rattle.algebraic.proofs.Preferring.{threshold_single, threshold_several}
use Rattle.algebraic.proofs.threshold_of.Goals as goal

pub returns-then-c-le1 : goal.returns-then-c-le1
returns-then-c-le1 c = sym (threshold_single _ _ c.if-c-le1.true)

pub returns-else-c-le1 : goal.returns-else-c-le1
returns-else-c-le1 c = sym (threshold_several _ _ (omega (arith, c.if-c-le1.false)))
