-- All values are sums.
use Rattle.std.proofs.Common.{ℕ, ap, ◌∙◌, arith}
use Rattle.std.specs.Int.Bits.{bit_xor}
use Rattle.boolean.specs.Sums.{list_below}
use Rattle.boolean.specs.Functions.{at}
use Rattle.boolean.proofs.Replaced.{replaced_whole}
use Rattle.masks.proofs.add_table.Goals as goal

pub returns : goal.returns
returns c =
    let a = c.args in
    replaced_whole _ _ _ c.loop-x.x c.loop-x.table c.loop-x.invariant (omega arith)
    ∙ ap (λ (k : ℕ). list_below k (λ x. bit_xor (at a.table.now x) (at a.other.now x))) c.requires
