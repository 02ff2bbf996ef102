-- Four bytes, low byte first.
use mathlib.Core.Path.{◌≡◌, ap}
use Prim.Native.Nat.{◌+◌, ◌*◌}
use native.Mathlib.Omega.{arith}
use Rattle.boolean.specs.Functions.{at}
use Rattle.boxfile.specs.File.{row_at}
use Rattle.boxfile.proofs.row_at.Goals as goal

pub returns : goal.returns
unfolding row_at
returns c =
    let file = c.args.file.now in
    let x = c.args.x in
    let second : 4 * x + 2 + 1 ≡ 4 * x + 3 = omega arith in
    let third : 4 * x + 2 + 2 ≡ 4 * x + 4 = omega arith in
    let fourth : 4 * x + 2 + 3 ≡ 4 * x + 5 = omega arith in
    omega (arith, ap (at file) second, ap (at file) third, ap (at file) fourth)
