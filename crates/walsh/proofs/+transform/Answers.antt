-- Above width 4 the values are cut in the middle: what the calls on the halves and the butterfly do to the lists is in `TransformHalves`.
use Rattle.std.proofs.Common.{◌≡◌, ◌-◌, suc, arith}
use Rattle.walsh.proofs.TransformHalves as halves
use Rattle.walsh.proofs.+transform.Goals as goal

pub butterfly-requires : goal.butterfly-requires
butterfly-requires t c =
    let one_less : c.args.n ≡ suc (c.args.n - 1) = omega arith in
    halves.crossing c.args.n (c.args.n - 1) _ c.args.values.now c.requires one_less (halves.middle c.args.n (c.args.n - 1) c.args.values.now c.requires one_less)
    c.transform.new.values c.transform.ensures c.transform-else-n-lt5.new.values c.transform-else-n-lt5.ensures

pub returns-else-n-lt5 : goal.returns-else-n-lt5
returns-else-n-lt5 t c =
    let one_less : c.args.n ≡ suc (c.args.n - 1) = omega arith in
    halves.right c.args.n (c.args.n - 1) _ c.args.values.now c.requires one_less (halves.middle c.args.n (c.args.n - 1) c.args.values.now c.requires one_less)
    c.transform.new.values c.transform.ensures c.transform-else-n-lt5.new.values c.transform-else-n-lt5.ensures
    c.butterfly.new.values c.butterfly.auto.values c.butterfly.ensures
