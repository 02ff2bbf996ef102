-- The list of all digits is what the text's digits are.
use Rattle.std.proofs.Common.{length, ◌∙◌}
use Rattle.boolean.proofs.Filled.{filled_whole}
use Rattle.spectra.proofs.Reading.{digits_are}
use Rattle.spectra.proofs.read_digits.Goals as goal

pub returns : goal.returns
returns c =
    filled_whole _ _ _ _ _ c.loop-x.invariant c.loop-x-test.false ∙ digits_are c.args.text.now (length c.args.table.now) c.requires
