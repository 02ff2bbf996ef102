-- One word more.
use mathlib.Core.Path.{sym, ap₂, ◌∙◌}
use Prim.Native.Nat.{ℕ, ◌+◌, ◌*◌, ◌/◌, ◌%◌, ◌<◌}
use native.Mathlib.Omega.{arith}
use lib.ListN.{length}
use Rattle.packing.specs.Work.{bits_gathered}
use Rattle.packing.proofs.Arrays.{stored_next}
use Rattle.packing.proofs.Places.{byte_column, byte_place, columns_before}
use Rattle.packing.proofs.gather_group.Goals as goal

pub loop-y-preserved : goal.loop-y-preserved
loop-y-preserved c =
    let a = c.args in
    let y = c.loop-y.y in
    let place : ℕ = a.i * a.size + y in
    let inside : place < length c.loop-y.words = omega (arith, columns_before a.i 7 a.size (omega arith)) in
    stored_next (λ q. bits_gathered a.rows.now (8 * (q % a.size)) 1 (q / a.size)) c.loop-y.words place _ _ (omega arith) inside
    (c.gather.ensures
    ∙ ap₂ (λ (p q : ℕ). bits_gathered a.rows.now (8 * p) 1 q) (sym (byte_place a.i y a.size (omega arith))) (sym (byte_column a.i y a.size (omega arith))))
    c.loop-y.invariant
