-- Below three inputs the values are those of the definition.
use Rattle.walsh.proofs.SpectrumHalves.{spectrum_is}
use Rattle.walsh.proofs.narrow.descend.Goals as goal

pub returns-in_default : goal.returns-in_default
returns-in_default c = spectrum_is c.args.n _ c.by_definition.new.out c.by_definition.ensures
