use Rattle.std.proofs.Common.{◌≡◌, ℕ, nat_abs, length, refl, ap, ◌∙◌, arith}
use Rattle.boolean.specs.Functions.{at, value_at}
use Rattle.boolean.specs.Sums.{largest_below}
use Rattle.boolean.proofs.Words.{word_told}
use Rattle.avalanche.proofs.Listing.{largest_more, largest_listed}
use Rattle.avalanche.proofs.largest_listed.Goals as goal

pub loop-s-init : goal.loop-s-init
unfolding largest_below
loop-s-init c = refl

pub loop-s-preserved : goal.loop-s-preserved
loop-s-preserved c =
    let sizes = λ (k : ℕ). nat_abs (value_at c.args.values.now (at c.args.list.now k)) in
    let read = value_at c.args.values.now (at c.args.list.now c.loop-s.s-index) in
    let is : c.magnitude.result ≡ nat_abs read = c.magnitude.ensures ∙ ap nat_abs (word_told read (omega arith)) in
    c.max-largest.ensures ∙ largest_more c.loop-s.s-index sizes c.loop-s.invariant is

pub returns : goal.returns
returns c =
    let a = c.args in
    let end : c.loop-s.s-index ≡ length a.list.now = omega arith in
    largest_listed a.values.now a.list.now (c.loop-s.invariant ∙ ap (λ (k : ℕ). largest_below k (λ k. nat_abs (value_at a.values.now (at a.list.now k)))) end)
