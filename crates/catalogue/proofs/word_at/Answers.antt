-- Two bytes of a file are two of a catalogue.
use Rattle.catalogue.specs.Format.{word_at}
use Rattle.catalogue.proofs.word_at.Goals as goal

pub returns : goal.returns
unfolding word_at
returns c = c.two_bytes.ensures
