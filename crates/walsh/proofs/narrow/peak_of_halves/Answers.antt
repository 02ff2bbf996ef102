-- The spectra of the halves are made, and the largest sum is taken. That this is the largest magnitude is in `SpectrumHalves`.
use Rattle.std.proofs.Common.{◌^◌, ◌∙◌, refl, suc}
use lib.Dec.{lit≤}
use Rattle.walsh.proofs.SpectrumHalves as halves
use Rattle.walsh.proofs.narrow.peak_of_halves.Goals as goal

pub largest_sum-requires : goal.largest_sum-requires
largest_sum-requires g c =
    let b = g.B.Block in
    let whole : halves.Cut (suc b.inputs) b.inputs c.length-h.result c.args.table.now c.args.work.now =
    record { ready = c.requires.0; one_less = refl; low = g.met.B.Spectral.some; half = c.length-h.ensures } in
    halves.crossing whole c.spectrum.new.out c.spectrum.ensures c.spectrum-2.new.out c.spectrum-2.ensures (2 ^ 13) (lit≤ tt)

pub returns : goal.returns
returns g c =
    let b = g.B.Block in
    let whole : halves.Cut (suc b.inputs) b.inputs c.length-h.result c.args.table.now c.args.work.now =
    record { ready = c.requires.0; one_less = refl; low = g.met.B.Spectral.some; half = c.length-h.ensures } in (
      c.largest_sum.ensures ∙ halves.peak_is whole c.spectrum.new.out c.spectrum.ensures c.spectrum-2.new.out c.spectrum-2.ensures,
      halves.same_long whole c.spectrum.new.out c.spectrum.ensures c.spectrum-2.new.out c.spectrum-2.ensures,
    )
