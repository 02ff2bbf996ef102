-- Four bytes, each eight columns after the one before.
use mathlib.Core.Path.{◌≡◌, ap}
use Prim.Native.Nat.{◌+◌, ◌*◌}
use native.Mathlib.Omega.{arith}
use Rattle.boolean.specs.Functions.{at}
use Rattle.packing.specs.Work.{four_bytes_at}
use Rattle.packing.proofs.four_bytes.Goals as goal

pub returns : goal.returns
unfolding four_bytes_at
returns c =
    let bytes = c.args.bytes.now in
    let size = c.args.size in
    let q = c.args.q in
    let third : q + 2 * (8 * size) ≡ q + 16 * size = omega arith in
    let fourth : q + 3 * (8 * size) ≡ q + 24 * size = omega arith in
    omega (arith, ap (at bytes) third, ap (at bytes) fourth)
