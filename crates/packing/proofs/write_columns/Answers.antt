-- All columns make the whole array.
use Prim.Native.Nat.{◌*◌}
use native.Mathlib.Omega.{arith}
use Rattle.boolean.proofs.Lists.{list_is}
use Rattle.packing.proofs.Places.{columns_before}
use Rattle.packing.specs.Work.{word_byte}
use Rattle.packing.proofs.write_columns.Goals as goal

pub returns : goal.returns
returns c =
    let a = c.args in
    list_is 0 (a.m * a.size) (word_byte a.words.now a.size) c.loop-j.out (omega arith)
    (λ p h. c.loop-j.invariant p (omega (arith, columns_before a.m c.loop-j.j a.size (omega arith))))
