use Rattle.std.proofs.Common.{arith}
use Rattle.algebraic.proofs.Adding.{adding_none, adding_more, adding_all}
use Rattle.algebraic.proofs.add_lower_half.Goals as goal

pub loop-k-init : goal.loop-k-init
loop-k-init c = adding_none c.args.h c.args.values.now

pub loop-k-preserved : goal.loop-k-preserved
loop-k-preserved c = adding_more c.requires c.loop-k.invariant (omega arith)

pub returns : goal.returns
returns c = adding_all c.loop-k.invariant (omega arith)
