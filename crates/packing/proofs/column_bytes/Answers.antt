-- A power of two, from 1 to 32.
use mathlib.Core.Path.{◌∙◌}
use native.Mathlib.Omega.{arith}
use Rattle.packing.proofs.Widths.{bytes_low, bytes_high}
use Rattle.packing.proofs.column_bytes.Goals as goal

pub returns : goal.returns
returns c =
    let e = c.power_of_two.ensures.0 ∙ c.doublings.ensures.0 in
    (e, omega (arith, e, bytes_low c.args.n), omega (arith, e, bytes_high c.args.n c.requires))
