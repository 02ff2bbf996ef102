-- `swaps::table_entry` meets its contract: one comparison of two bits. Assumes nothing.
use mathlib.Core.Path.{◌≡◌, ap}
use Prim.Native.Nat.{ℕ}
use lib.Bits.{bit_xor}
use Rattle.boolean.specs.Bits.{affine}
use Rattle.swaps.proofs.Gathering.{entry_agrees, entry_differs}
use Rattle.swaps.proofs.table_entry.Goals as goal

pub returns-then-value-near : goal.returns-then-value-near
unfolding affine
returns-then-value-near c =
    let near_is : bit_xor c.dot.result c.args.pair.b ≡ affine c.args.pair.w c.args.pair.b c.args.x = ap (λ (z : ℕ). bit_xor z c.args.pair.b) c.dot.ensures.0 in
    entry_differs c.dot-value.ensures.0 near_is c.if-value-near.true

pub returns : goal.returns
unfolding affine
returns c =
    let near_is : bit_xor c.dot.result c.args.pair.b ≡ affine c.args.pair.w c.args.pair.b c.args.x = ap (λ (z : ℕ). bit_xor z c.args.pair.b) c.dot.ensures.0 in
    entry_agrees c.dot-value.ensures.0 near_is c.if-value-near.false
