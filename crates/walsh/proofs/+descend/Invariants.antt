-- The measure is the width.
use Rattle.walsh.proofs.+descend.Given as goal

abbrev pub decreases-descend : goal.decreases-descend
decreases-descend l = l.n
