-- The part of the step tables that is lent is table k.
use Rattle.std.proofs.Common.{◌∙◌}
use Rattle.masks.proofs.Stepped.{step_inside, part_added}
use Rattle.masks.proofs.add_step.Goals as goal

pub slice_bounds-add_table-end : goal.slice_bounds-add_table-end
slice_bounds-add_table-end c = step_inside c.requires.0 c.requires.1

pub returns : goal.returns
returns c = c.add_table.ensures ∙ part_added c.requires.0 c.requires.1 c.args.table.now
