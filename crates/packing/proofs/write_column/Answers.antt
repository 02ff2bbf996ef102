-- One byte more.
use mathlib.Core.Path.{◌∙◌}
use native.Mathlib.Omega.{arith}
use Prim.Native.Nat.{◌+◌, ◌*◌}
use Rattle.packing.specs.Work.{word_byte}
use Rattle.packing.proofs.Arrays.{stored_next}
use Rattle.packing.proofs.Places.{byte_of_word}
use Rattle.packing.proofs.write_column.Goals as goal

pub loop-y-preserved : goal.loop-y-preserved
loop-y-preserved c =
    let a = c.args in
    let y = c.loop-y.y in
    stored_next (word_byte a.words.now a.size) c.loop-y.out (a.j * a.size + y) _ _ (omega arith) (omega arith)
    (c.byte_of.ensures ∙ byte_of_word a.words.now a.j y a.size (omega arith)) c.loop-y.invariant
