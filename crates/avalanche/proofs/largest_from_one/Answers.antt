use Rattle.std.proofs.Common.{◌∙◌}
use Rattle.avalanche.proofs.Scans.{largest_from, rest_magnitude}
use Rattle.avalanche.proofs.largest_from_one.Goals as goal

pub returns : goal.returns
returns c =
    let e = c.largest_magnitude.ensures in
    (largest_from c.args.values.now c.requires.1 e, e ∙ rest_magnitude c.args.values.now)
