use Rattle.algebraic.proofs.Sweeping.{next_whole}
use Rattle.algebraic.proofs.next_within.Goals as goal

pub returns-then-m-i : goal.returns-then-m-i
returns-then-m-i c = next_whole c.args.m c.args.i c.args.c c.requires.0 c.if-m-i.true c.requires.2
