-- One step table is added, or two.
use Rattle.std.proofs.Common.{arith}
use Rattle.masks.proofs.Stepped.{high_step, low_short, table_long, new_long, stepped_once, stepped_twice}
use Rattle.masks.proofs.next_component.Goals as goal

pub add_step-requires : goal.add_step-requires
add_step-requires c = let pre = c.requires in (pre.tables, high_step pre, table_long pre)

pub add_step-requires-then-low-gt0 : goal.add_step-requires-then-low-gt0
add_step-requires-then-low-gt0 c =
    let pre = c.requires in
    (pre.tables, omega (arith, low_short pre), new_long pre c.add_step.ensures)

pub returns-then-low-gt0 : goal.returns-then-low-gt0
returns-then-low-gt0 c = stepped_twice c.requires c.add_step.ensures c.if-low-gt0.true c.add_step-then-low-gt0.ensures

pub returns-else-low-gt0 : goal.returns-else-low-gt0
returns-else-low-gt0 c = stepped_once c.requires c.add_step.ensures (omega (arith, c.if-low-gt0.false))
