use Rattle.std.proofs.Common.{ℕ, ap, ◌∙◌, arith, add-one}
use Rattle.std.proofs.Math.ListN.{set}
use Rattle.std.proofs.lemmas.List.Edits.{sets}
use Rattle.texts.specs.Text.{numeral}
use Rattle.texts.proofs.put_figure.Goals as goal

pub returns : goal.returns
returns c =
    let a = c.args in
    let spaced = set a.out.now a.at 32 in
    (omega (arith, c.put_number.ensures.0), c.put_number.ensures.1 ∙ ap (λ (k : ℕ). sets spaced k (numeral a.figure)) (add-one a.at))
