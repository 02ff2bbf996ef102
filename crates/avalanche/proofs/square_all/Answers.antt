use Rattle.std.proofs.Common.{◌≡◌, ℤ, ◌≤◌, pos, ◌+ℤ◌, nat_abs, ap, ◌∙◌, arith}
use Rattle.boolean.specs.Functions.{value_at, square}
use Rattle.boolean.proofs.Filled.{filled_more, filled_whole}
use Rattle.boolean.proofs.Sizes.{abs_twice}
use Rattle.boolean.proofs.Spectrum.{square_is}
use Rattle.boolean.proofs.Products.{product_stored}
use Rattle.boolean.proofs.Words.{word, word_is, mag_abs}
use Rattle.walsh.proofs.Short.{narrow_told}
use Rattle.avalanche.proofs.square_all.Invariants.{squared}
use Rattle.avalanche.proofs.square_all.Goals as goal

pub loop-k-preserved : goal.loop-k-preserved
loop-k-preserved c =
    let read = value_at c.args.values.now c.loop-k.k in
    let few = c.requires.0 c.loop-k.k in
    let is : c.from-value.result ≡ read = c.from-value.ensures ∙ narrow_told read (omega (arith, mag_abs read, few)) in
    let kept : word c.from-value.result ≡ read = word_is c.from-value.result (omega (arith, ap nat_abs is, few)) ∙ is in
    let double = word c.from-value.result +ℤ word c.from-value.result in
    let twice : double ≡ read +ℤ read = ap (λ (z : ℤ). z +ℤ z) kept in
    let small : nat_abs double ≤ 256 = omega (arith, ap nat_abs twice, abs_twice read, few) in
    filled_more (pos 0) (squared c.args.values.now) _ c.loop-k.k c.loop-k.squares c.loop-k.invariant (omega arith) _
    (product_stored double small ∙ square_is double ∙ ap (λ (z : ℤ). pos (square z)) twice)

pub returns : goal.returns
returns c = filled_whole (pos 0) (squared c.args.values.now) _ c.loop-k.k c.loop-k.squares c.loop-k.invariant (omega arith)
