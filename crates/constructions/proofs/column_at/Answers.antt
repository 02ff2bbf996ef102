-- `constructions::column_at` meets its contract: the value at the source, to which the upper half adds the constant. Assumes nothing.
use Prim.Native.Nat.{ℕ}
use mathlib.Core.Path.{ap, ◌∙◌}
use native.Mathlib.Omega.{arith}
use lib.Bits.{bit_xor}
use Rattle.boolean.specs.Functions.{at}
use Rattle.constructions.proofs.Enlarging.{enlarged_lower, enlarged_upper}
use Rattle.constructions.proofs.column_at.Goals as goal

pub returns-then-x-power_of_two : goal.returns-then-x-power_of_two
returns-then-x-power_of_two c =
    let a = c.args in
    ap (at a.table.now) c.source.ensures.0 ∙ enlarged_lower a.n a.k a.x (at a.table.now) a.a (omega arith)

pub returns : goal.returns
returns c =
    let a = c.args in
    ap (λ (s : ℕ). bit_xor (at a.table.now s) a.a) c.source.ensures.0 ∙ enlarged_upper a.n a.k a.x (at a.table.now) a.a (omega arith)
