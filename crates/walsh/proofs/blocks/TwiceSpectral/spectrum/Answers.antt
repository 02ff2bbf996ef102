-- The spectra of the halves are made and crossed: what that does to the list is in `SpectrumHalves`.
use Rattle.std.proofs.Common.{◌^◌, refl, suc}
use lib.Dec.{lit≤}
use Rattle.walsh.proofs.SpectrumHalves as halves
use Rattle.walsh.proofs.blocks.TwiceSpectral.spectrum.Goals as goal

pub butterfly-requires : goal.butterfly-requires
butterfly-requires g c =
    let b = g.B.Block in
    let whole : halves.Cut (suc b.inputs) b.inputs c.length-h.result c.args.table.now c.args.out.now =
    record { ready = c.requires.0; one_less = refl; low = g.met.B.Spectral.some; half = c.length-h.ensures } in
    halves.crossing whole c.spectrum.new.out c.spectrum.ensures c.spectrum-2.new.out c.spectrum-2.ensures (2 ^ 13) (lit≤ tt)

pub returns : goal.returns
returns g c =
    let b = g.B.Block in
    let whole : halves.Cut (suc b.inputs) b.inputs c.length-h.result c.args.table.now c.args.out.now =
    record { ready = c.requires.0; one_less = refl; low = g.met.B.Spectral.some; half = c.length-h.ensures } in
    halves.right whole c.spectrum.new.out c.spectrum.ensures c.spectrum-2.new.out c.spectrum-2.ensures c.butterfly.new.values c.butterfly.auto.values c.butterfly.ensures
