-- The number of a step table is below m, so its run of ones fits 32 bits, and the values are the step tables.
use Rattle.std.proofs.Common.{◌*◌, ◌-◌, ◌^◌, ◌/◌, ◌%◌, ◌<◌, length, sym, ◌∙◌, arith}
use native.Mathlib.Nat.{div-lt_iff_lt-mul}
use lib.Pow.{pow_mono}
use Rattle.boolean.proofs.Lists.{list_is}
use Rattle.boolean.proofs.Digits.{component_dot}
use Rattle.masks.specs.Steps.{step_tables}
use Rattle.masks.proofs.write_steps.Goals as goal

pub overflow_cast-run : goal.overflow_cast-run
overflow_cast-run c =
    let size = length c.args.rows.now in
    let i = c.loop-i.i in
    let number : i / size < c.args.m = (div-lt_iff_lt-mul {x = i} c.requires.1).1 (omega arith) in
    omega (arith, c.power_of_two.ensures.0, pow_mono {i = i / size} {j = 31} (omega arith))

pub returns : goal.returns
unfolding step_tables
returns c =
    let rows = c.args.rows.now in
    let known = c.loop-i.invariant in
    record {
      m_high = c.requires.0;
      few = c.requires.2;
      some = c.requires.1;
      steps_are = list_is 0 _ _ _ known.0
          (λ k h. known.1 k (omega arith) ∙ sym (component_dot rows (2 * 2 ^ (k / length rows) - 1) (k % length rows)));
    }
