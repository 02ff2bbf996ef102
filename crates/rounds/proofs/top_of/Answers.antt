use Rattle.std.proofs.Common.{◌∙◌}
use Rattle.std.proofs.lemmas.List.{length-take-le}
use Rattle.rounds.proofs.Tops.{spectrum_written, top_of}
use Rattle.rounds.proofs.top_of.Goals as goal

pub returns : goal.returns
returns c =
    let s = c.args.s.now in
    let p = c.requires in
    let e = spectrum_written s.n s.m s.rows.now c.args.c p.0 p.1 p.2 _ (length-take-le _ _ (p.0.small) ∙ p.0.size) c.spectrum_of_component.ensures.content in
    top_of s.n s.m s.rows.now c.args.c p.0.n_low e c.highest.ensures
