use Rattle.std.proofs.Common.{arith, rules}
use Rattle.nearest.proofs.Loops.{lent_again, rising_none, rising_next, rising_all}
use Rattle.nearest.proofs.list_all.Goals as goal

pub loop-k-init : goal.loop-k-init
loop-k-init c = rising_none c.requires.0

pub loop-k-preserved : goal.loop-k-preserved
loop-k-preserved c =
    let e = c.list_of_ones-next.ensures in
    let inv = c.loop-k.invariant in
    rising_next inv (omega arith) (lent_again inv.lent e.3 e.4 e.5) e.0 e.1 e.2

pub returns-2 : goal.returns-2
returns-2 c =
    let e = c.list_of_ones-next.ensures in
    let inv = c.loop-k.invariant in
    let t = rising_all (rising_next inv (omega arith) (lent_again inv.lent e.3 e.4 e.5) e.0 e.1 e.2) (omega arith) in
    (t.0, t.1, search rules, search rules, search rules)
