use Rattle.std.proofs.Common.{ℕ, sym, ap, ◌∙◌, arith}
use borrow.Author.Tests.{eqb-true}
use Rattle.boolean.specs.Bits.{dot}
use Rattle.boolean.specs.Functions.{at}
use Rattle.algebraic.proofs.Scanning.{first_odd, none_odd}
use Rattle.algebraic.proofs.component_degree.Goals as goal

pub returns-then-is_odd : goal.returns-then-is_odd
returns-then-is_odd c =
    let a = c.args in
    first_odd c.requires a.c c.loop-u.u-index c.loop-u-test.true c.loop-u.invariant
    (ap (λ (u : ℕ). dot (at a.words.now u) a.c) (sym c.from.ensures) ∙ eqb-true _ 1 (sym c.is_odd.ensures ∙ c.if-is_odd.true))

pub returns : goal.returns
returns c = none_odd c.requires c.args.c (λ j l. c.loop-u.invariant j (omega (arith, l, c.loop-u-test.false)))
