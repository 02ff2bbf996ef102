use Rattle.std.proofs.Common.{◌+◌, sym, ◌∙◌, arith}
use Rattle.masks.specs.Statements.{MaskRange}
use Rattle.masks.proofs.Sweeps.{sweep_from, sweep_next, table_size}
use Rattle.avalanche.proofs.Widest.{values_length}
use Rattle.avalanche.proofs.Sweeps.{widest_swept}
use Rattle.avalanche.proofs.sweep.Goals as goal

pub loop-c-init : goal.loop-c-init
loop-c-init c =
    let p = c.requires.6 in
    let part : MaskRange c.args.m c.args.first (c.args.last + 1) = record { low = p.low; some = omega (arith, p.some); high = omega (arith, p.high) } in
    (sweep_from c.requires.0.box part c.requires.3 p.few c.write_component.ensures c.requires.0.out_size, c.requires.7)

pub loop-c-preserved : goal.loop-c-preserved
loop-c-preserved c =
    let inv = c.loop-c.invariant in
    let a = c.args in
    let e = c.next_correlation.ensures in (
      sweep_next inv.0 c.loop-c-test.true c.next_mask-c.ensures.0 c.next_mask-c.ensures.1 e.1 (e.2 ∙ inv.0.values_size) c.with_correlation-found.ensures,
      values_length a.n a.rows.now _ a.j e.0,
    )

pub returns : goal.returns
returns c =
    let inv = c.loop-c.invariant in (
      widest_swept c.args.j c.requires.6 inv.0 c.loop-c-test.false c.requires.4,
      c.write_steps.ensures.steps_are,
      table_size inv.0 ∙ sym c.requires.0.table_size,
      inv.0.values_size ∙ sym c.requires.0.out_size,
      inv.1 ∙ sym c.requires.7,
    )
