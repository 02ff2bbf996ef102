-- The halves are transformed and crossed: what that does to the list is in `TransformHalves`.
use Rattle.std.proofs.Common.{refl}
use Rattle.walsh.proofs.TransformHalves as halves
use Rattle.walsh.proofs.blocks.TwiceSummed.transform.Goals as goal

pub butterfly-requires : goal.butterfly-requires
butterfly-requires g c =
    halves.crossing _ g.B.Block.inputs _ c.args.values.now c.requires refl c.length-h.ensures
    c.transform.new.values c.transform.ensures c.transform-2.new.values c.transform-2.ensures

pub returns : goal.returns
returns g c =
    halves.right _ g.B.Block.inputs _ c.args.values.now c.requires refl c.length-h.ensures
    c.transform.new.values c.transform.ensures c.transform-2.new.values c.transform-2.ensures
    c.butterfly.new.values c.butterfly.auto.values c.butterfly.ensures
