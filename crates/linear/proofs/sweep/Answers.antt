-- `linear::sweep` meets its contract: it has the best pair of the components of its part before c, from a count that no pair has, and the truth table of
-- the last of them. Assumes nothing.
use Prim.Native.Nat.{◌+◌, ◌^◌, ◌<◌}
use mathlib.Core.Path.{sym, ap, ◌∙◌}
use native.Mathlib.Omega.{arith}
use lib.ListN.{length}
use Rattle.masks.proofs.Boxes.{box_some, masks_fit}
use Rattle.masks.proofs.Sweeps.{sweep_from, sweep_next, table_size, stepping}
use Rattle.masks.specs.Statements.{MaskRange}
use Rattle.linear.proofs.Nearest.{arrays, nearest_swept}
use Rattle.linear.proofs.Components.{table_length}
use Rattle.linear.proofs.sweep.Goals as goal

pub write_steps-requires : goal.write_steps-requires
write_steps-requires c =
    let box = c.requires.0.box in
    (box.m_high, box_some box, box.small, c.requires.2)

pub overflow_sub-prior : goal.overflow_sub-prior
overflow_sub-prior c = c.requires.4.low

pub write_component-requires : goal.write_component-requires
write_component-requires c =
    c.requires.0.table_size ∙ sym c.requires.0.box.size

pub loop-c-init : goal.loop-c-init
loop-c-init c =
    let part : MaskRange c.args.m c.args.first (c.args.last + 1) = record { low = c.requires.4.low; some = omega (arith, c.requires.4.some); high = omega (arith, c.requires.4.high) } in
    (sweep_from c.requires.0.box part c.requires.3 c.requires.4.few c.write_component.ensures c.requires.0.out_size, c.requires.5)

pub next_peak-largest-requires : goal.next_peak-largest-requires
next_peak-largest-requires c =
    let below : c.loop-c.c < 2 ^ c.args.m = omega (arith, c.loop-c-test.true, c.requires.4.high) in
    (arrays c.loop-c.invariant.0, c.requires.1, stepping c.loop-c.invariant.0 c.write_steps.ensures below)

pub overflow_cast-c-in-loop-c : goal.overflow_cast-c-in-loop-c
overflow_cast-c-in-loop-c c =
    let below : c.loop-c.c < 2 ^ c.args.m = omega (arith, c.loop-c-test.true, c.requires.4.high) in
    let fits : c.loop-c.c < 4294967296 = masks_fit c.loop-c.invariant.0.box below in
    omega (arith, fits)

pub with_peak-found-requires : goal.with_peak-found-requires
with_peak-found-requires c =
    let inv = c.loop-c.invariant in
    let a = c.args in (
      record {
        box = inv.0.box;
        table_size = ap length c.next_peak-largest.ensures.1 ∙ table_length a.n a.rows.now c.loop-c.c;
        out_size = inv.1;
      },
      c.requires.1,
      c.next_peak-largest.ensures.0,
      c.next_peak-largest.ensures.1,
    )

pub next_mask-c-requires : goal.next_mask-c-requires
next_mask-c-requires c =
    let below : c.loop-c.c < 2 ^ c.args.m = omega (arith, c.loop-c-test.true, c.requires.4.high) in
    let fits : c.loop-c.c < 4294967296 = masks_fit c.loop-c.invariant.0.box below in
    let walk = c.loop-c.invariant.0.choosing.walk in
    (walk.limit, fits, walk.few)

pub loop-c-smaller : goal.loop-c-smaller
loop-c-smaller c = omega (arith, c.next_mask-c.ensures.0.above, c.loop-c-test.true)

pub loop-c-preserved : goal.loop-c-preserved
loop-c-preserved c =
    let inv = c.loop-c.invariant in (
      sweep_next inv.0 c.loop-c-test.true c.next_mask-c.ensures.0 c.next_mask-c.ensures.1
          c.next_peak-largest.ensures.1 (c.next_peak-largest.auto.work ∙ inv.0.values_size) c.with_peak-found.ensures.0,
      c.with_peak-found.ensures.1 ∙ inv.1,
    )

pub shape_of-table : goal.shape_of-table
shape_of-table c = table_size c.loop-c.invariant.0 ∙ sym c.requires.0.table_size

pub shape_of-work : goal.shape_of-work
shape_of-work c = c.loop-c.invariant.0.values_size ∙ sym c.requires.0.out_size

pub shape_of-values : goal.shape_of-values
shape_of-values c = c.loop-c.invariant.1 ∙ sym c.requires.5

pub returns : goal.returns
returns c = (
  nearest_swept c.requires.4 c.loop-c.invariant.0 c.loop-c-test.false (omega (arith, c.requires.0.box.size)),
  c.write_steps.ensures.steps_are,
  table_size c.loop-c.invariant.0 ∙ sym c.requires.0.table_size,
  c.loop-c.invariant.0.values_size ∙ sym c.requires.0.out_size,
  c.loop-c.invariant.1 ∙ sym c.requires.5,
)
