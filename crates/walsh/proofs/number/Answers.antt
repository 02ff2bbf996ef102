-- `walsh::number` meets its contract: the product has the eight values side by side. Assumes nothing.
use mathlib.Core.Path.{ap₂}
use Prim.Native.Nat.{ℕ, ◌+◌, ◌*◌, ◌/◌, ◌%◌, ◌≤◌}
use native.Mathlib.Omega.{arith}
use Rattle.walsh.proofs.Numbers.{bytes_small, number_is}
use Rattle.walsh.proofs.number.Goals as goal

pub overflow_mul-both : goal.overflow_mul-both
overflow_mul-both c =
    let small : (c.four_bytes.result ≤ 16843009) × (c.four_bytes-2.result ≤ 16843009) = (omega (arith, bytes_small c.args.table.now c.requires.bits 0), omega (arith, bytes_small c.args.table.now c.requires.bits 4)) in
    omega (arith, small.1)

pub overflow_add-both : goal.overflow_add-both
overflow_add-both c =
    let small : (c.four_bytes.result ≤ 16843009) × (c.four_bytes-2.result ≤ 16843009) = (omega (arith, bytes_small c.args.table.now c.requires.bits 0), omega (arith, bytes_small c.args.table.now c.requires.bits 4)) in
    omega (arith, small.0, small.1)

pub overflow_mul-result : goal.overflow_mul-result
overflow_mul-result c =
    let small : (c.four_bytes.result ≤ 16843009) × (c.four_bytes-2.result ≤ 16843009) = (omega (arith, bytes_small c.args.table.now c.requires.bits 0), omega (arith, bytes_small c.args.table.now c.requires.bits 4)) in
    omega (arith, small.0, small.1)

pub returns : goal.returns
returns c =
    number_is c.args.table.now c.requires.bits _
    (ap₂ (λ (a b : ℕ). (a + 16 * b) * 16909320 / 16777216 % 256) c.four_bytes.ensures c.four_bytes-2.ensures)
