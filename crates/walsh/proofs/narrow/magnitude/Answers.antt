-- `walsh::narrow::magnitude` meets its contract: a 32-bit word holds the number, and a 16-bit word its magnitude. Assumes nothing.
use mathlib.Core.Path.{◌≡◌, ap, ◌∙◌}
use native.Mathlib.Omega.{arith}
use lib.IntN.{nat_abs}
use Rattle.walsh.proofs.Short.{widens, widened, short_size}
use Rattle.walsh.proofs.narrow.magnitude.Goals as goal

pub overflow_cast-v : goal.overflow_cast-v
overflow_cast-v c = widens c.args.v c.ranges.v.sfits

pub overflow_cast-result : goal.overflow_cast-result
overflow_cast-result c =
    let size : c.magnitude.result ≡ nat_abs c.args.v = c.magnitude.ensures ∙ ap nat_abs (widened c.args.v c.ranges.v.sfits) in
    record { fits = omega (arith, size, short_size c.args.v c.ranges.v.sfits) }

pub returns : goal.returns
returns c =
    let size : c.magnitude.result ≡ nat_abs c.args.v = c.magnitude.ensures ∙ ap nat_abs (widened c.args.v c.ranges.v.sfits) in
    size
