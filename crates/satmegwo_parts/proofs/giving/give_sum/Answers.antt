use Rattle.std.proofs.Common.{rules}
use Rattle.std.specs.Prelude.{Ok, None}
use mathlib.Core.Path.{◌≡◌, refl, ap, ◌∙◌}
use Rattle.refusals.specs.Table.{figures}
use Rattle.border.proofs.Giving.{gives_number, gives_same}
use Rattle.satmegwo_parts.specs.Exports.{flagged, part_figures}
use Rattle.satmegwo_parts.proofs.Merging.{no_masks}
use Rattle.satmegwo_parts.proofs.giving.give_sum.Goals as goal

pub returns-in-Ok-None : goal.returns-in-Ok-None
unfolding flagged part_figures
returns-in-Ok-None c =
    let n = c.args.count in
    let nothing : c.args.answer ≡ Ok None = search rules in
    gives_same (ap figures (no_masks n) ∙ rw nothing refl) c.give_masks-in-Ok-None.ensures

pub returns-in-Err : goal.returns-in-Err
unfolding flagged
returns-in-Err c = gives_number (rw c.in-Err.is refl) c.number_of.ensures
