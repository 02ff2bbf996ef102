-- Each turn writes one number of the part.
use mathlib.Core.Path.{refl, sym, ◌∙◌}
use lib.ListN.{length}
use Rattle.boolean.specs.Functions.{at}
use Rattle.boolean.proofs.Filled.{filled_none, filled_more, filled_whole}
use Rattle.boolean.proofs.Lists.{list_is}
use Rattle.satmegwo_parts.proofs.write_part.Goals as goal

pub loop-k-init : goal.loop-k-init
loop-k-init c = filled_none 0 _ _ c.args.merged.now c.requires

pub loop-k-preserved : goal.loop-k-preserved
loop-k-preserved c = filled_more 0 (at c.args.part.now) _ c.loop-k.k c.loop-k.merged c.loop-k.invariant c.loop-k-test.true _ refl

pub returns : goal.returns
returns c =
    let part = c.args.part.now in
    filled_whole 0 (at part) _ c.loop-k.k c.loop-k.merged c.loop-k.invariant c.loop-k-test.false
    ∙ sym (list_is 0 (length part) (at part) part refl (λ i l. refl))
