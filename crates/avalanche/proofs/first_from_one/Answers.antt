use Rattle.avalanche.proofs.Scans.{first_from}
use Rattle.avalanche.proofs.first_from_one.Goals as goal

pub returns : goal.returns
returns c =
    first_from c.args.values.now c.requires.0 (c.requires.1.reached c.requires.2) c.first_place-place.ensures
