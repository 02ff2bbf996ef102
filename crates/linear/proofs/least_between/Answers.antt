-- `linear::least_between` meets its contract: the sweep's, in arrays of its own. Assumes nothing.
use mathlib.Core.Path.{sym, ◌∙◌}
use native.Mathlib.Omega.{arith}
use lib.Seq.{length-take-le}
use Rattle.masks.proofs.Boxes.{steps_few}
use Rattle.linear.proofs.least_between.Goals as goal

pub overflow_mul-total : goal.overflow_mul-total
overflow_mul-total c = omega (arith, steps_few c.requires.0)

pub slice_bounds-steps-end : goal.slice_bounds-steps-end
slice_bounds-steps-end c = steps_few c.requires.0

pub slice_bounds-sweep-end : goal.slice_bounds-sweep-end
slice_bounds-sweep-end c = sym (length-take-le _ _ (steps_few c.requires.0))

pub slice_bounds-sweep-end-2 : goal.slice_bounds-sweep-end-2
slice_bounds-sweep-end-2 c = sym (length-take-le _ _ c.requires.0.small)

pub slice_bounds-sweep-end-3 : goal.slice_bounds-sweep-end-3
slice_bounds-sweep-end-3 c = sym (length-take-le _ _ c.requires.0.small)

pub slice_bounds-sweep-end-4 : goal.slice_bounds-sweep-end-4
slice_bounds-sweep-end-4 c = sym (length-take-le _ _ c.requires.0.small)

pub sweep-requires : goal.sweep-requires
sweep-requires c =
    let b = c.requires.0 in (
      record { box = b; table_size = length-take-le _ _ b.small ∙ b.size; out_size = length-take-le _ _ b.small ∙ b.size },
      c.spectra-fixed.ensures,
      length-take-le _ _ (steps_few b),
      c.requires.1,
      c.requires.2,
      length-take-le _ _ b.small ∙ b.size,
    )

pub returns : goal.returns
returns c = c.sweep.ensures.0
