-- The measure is the width.
use Rattle.walsh.proofs.+transform.Given as goal

abbrev pub decreases-transform : goal.decreases-transform
decreases-transform l = l.n
