use Rattle.std.proofs.Common.{arith}
use Rattle.algebraic.proofs.MoebiusHalves as halves
use Rattle.algebraic.proofs.+moebius.Goals as goal

pub moebius-requires : goal.moebius-requires
moebius-requires t c =
    (omega arith, halves.lower_size c.args.n c.args.values.now c.requires c.if-n-ne0.true)

pub moebius-requires-then-n-ne0 : goal.moebius-requires-then-n-ne0
moebius-requires-then-n-ne0 t c =
    (omega arith, halves.upper_size c.args.n c.args.values.now c.requires c.if-n-ne0.true c.moebius.new.values c.moebius.ensures)

pub add_lower_half-requires : goal.add_lower_half-requires
add_lower_half-requires t c =
    halves.two_halves c.args.n c.args.values.now c.requires c.if-n-ne0.true
    c.moebius.new.values c.moebius.ensures c.moebius-then-n-ne0.new.values c.moebius-then-n-ne0.ensures

pub returns-then-n-ne0 : goal.returns-then-n-ne0
returns-then-n-ne0 t c =
    halves.right c.args.n c.args.values.now c.requires c.if-n-ne0.true
    c.moebius.new.values c.moebius.ensures c.moebius-then-n-ne0.new.values c.moebius-then-n-ne0.ensures
    c.add_lower_half.new.values c.add_lower_half.auto.values c.add_lower_half.ensures

pub returns-else-n-ne0 : goal.returns-else-n-ne0
returns-else-n-ne0 t c = halves.one_value c.args.n c.args.values.now c.requires c.if-n-ne0.false
