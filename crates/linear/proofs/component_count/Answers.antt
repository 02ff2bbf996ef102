use mathlib.Core.Path.{refl, sym, ap, ◌∙◌}
use Prim.Native.Nat.{ℕ, ◌-◌, ◌/◌}
use native.Mathlib.Omega.{arith}
use Rattle.linear.proofs.Nearest.{values_nonempty, largest_le, least_figure}
use Rattle.walsh.proofs.Magnitudes.{largest_of}
use Rattle.linear.proofs.component_count.Goals as goal

pub overflow_sub-result : goal.overflow_sub-result
overflow_sub-result c =
    let a = c.args in
    omega (arith, c.requires.0.box.size, largest_le a.n a.rows.now a.c refl c.requires.0.box.n_low (largest_of _ c.component_peak-largest.ensures.0 (values_nonempty a.n a.rows.now a.c refl)))

pub returns : goal.returns
returns c =
    let a = c.args in
    let top = largest_of _ c.component_peak-largest.ensures.0 (values_nonempty a.n a.rows.now a.c refl) in (
      ap (λ (k : ℕ). k / 2 - c.component_peak-largest.result) c.requires.0.box.size ∙ sym (least_figure a.n a.rows.now a.c refl c.requires.0.box.n_low top),
      c.component_peak-largest.ensures.1,
      c.component_peak-largest.ensures.2,
    )
