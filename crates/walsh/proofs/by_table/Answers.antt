-- `walsh::by_table` meets its contract: the eight values stand together in the fixed table. Assumes nothing.
use mathlib.Core.Path.{refl, sym, ◌∙◌, subst}
use mathlib.Core.List.{List}
use Prim.Native.Nat.{◌+◌, ◌*◌}
use native.Mathlib.Nat.{le_refl, add-zero}
use native.Mathlib.Omega.{arith}
use lib.IntN.{ℤ, pos}
use Rattle.boolean.specs.Functions.{at, approximation, spectrum}
use Rattle.boolean.proofs.Filled.{Filled, filled_none, filled_whole}
use Rattle.walsh.proofs.Numbers.{four_more}
use Rattle.walsh.proofs.by_table.Goals as goal

pub number-first-requires : goal.number-first-requires
number-first-requires c = c.requires.0.read

pub returns : goal.returns
unfolding spectrum
returns c =
    let fixed = c.args.fixed.now in
    let f = at c.args.table.now in
    let t = c.number-first.result in
    let told = c.number-first.ensures in
    let more = four_more fixed f t c.requires.1 told.0 told.1 in
    let four = more (t * 8) 0 c.args.out.now (sym (add-zero (t * 8))) (omega arith) (filled_none (pos 0) _ 8 c.args.out.now c.requires.0.room) in
    let four_there = subst (λ (l : List ℤ). Filled (pos 0) (λ v. approximation 3 f v) 8 4 l) (sym c.copy_four.ensures) four in
    let eight = more (t * 8 + 4) 4 c.copy_four.new.out refl (omega arith) four_there in
    c.copy_four-2.ensures ∙ filled_whole (pos 0) (λ v. approximation 3 f v) 8 8 _ eight (le_refl 8)
