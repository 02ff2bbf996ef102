use Rattle.avalanche.proofs.Scans.{largest_anywhere}
use Rattle.avalanche.proofs.largest_within.Goals as goal

pub returns-else-j-n : goal.returns-else-j-n
returns-else-j-n c = largest_anywhere c.args.values.now c.requires.1 c.requires.0 c.if-j-n.false c.largest_from_one.ensures.0
