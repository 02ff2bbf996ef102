-- The component's values are the table.
use Rattle.std.proofs.Common.{sym, ◌∙◌, arith}
use Rattle.boolean.proofs.Lists.{list_is}
use Rattle.boolean.proofs.Digits.{component_dot}
use Rattle.masks.proofs.write_component.Goals as goal

pub returns : goal.returns
returns c =
    let known = c.loop-x.invariant in
    list_is 0 _ _ _ known.0 (λ k h. known.1 k (omega arith) ∙ sym (component_dot c.args.rows.now c.args.c k))
