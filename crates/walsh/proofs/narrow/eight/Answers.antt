-- `walsh::narrow::eight` meets its contract: the eight values stand together in the fixed table. Assumes nothing.
use mathlib.Core.Path.{refl, sym, ◌∙◌}
use Prim.Native.Nat.{◌+◌, ◌*◌}
use native.Mathlib.Nat.{le_refl, add-zero}
use native.Mathlib.Omega.{arith}
use lib.IntN.{pos}
use Rattle.boolean.specs.Functions.{at, approximation, spectrum}
use Rattle.boolean.proofs.Filled.{filled_none, filled_whole}
use Rattle.walsh.proofs.Numbers.{four_more}
use Rattle.walsh.proofs.narrow.eight.Goals as goal

pub returns : goal.returns
unfolding spectrum
returns c =
    let f = at c.args.table.now in
    let t = c.number.result in
    let told = c.number.ensures in
    let more = four_more c.args.fixed.now f t c.requires.1 told.0 told.1 in
    let four = more (t * 8) 0 c.args.out.now (sym (add-zero (t * 8))) (omega arith) (filled_none (pos 0) _ 8 c.args.out.now c.requires.0.room) in
    let all = more (t * 8 + 4) 4 _ refl (omega arith) four in
    c.copy_eight.ensures ∙ filled_whole (pos 0) (λ v. approximation 3 f v) 8 8 _ all (le_refl 8)
