-- The two numbers of the place.
use mathlib.Core.Path.{ap₂}
use Rattle.catalogue.specs.Format.{place_at}
use Rattle.catalogue.specs.Work.{place_from}
use Rattle.catalogue.proofs.place_at.Goals as goal

pub returns : goal.returns
unfolding place_at
returns c = (ap₂ place_from c.word_at.ensures.0 c.word_at-2.ensures.0, c.word_at.ensures.1, c.word_at-2.ensures.1)
