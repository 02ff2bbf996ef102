-- Above width 3 a table is cut, at width 4 and above it alike: what the calls on the halves and the butterfly do to the lists is in
-- `SpectrumHalves`.
use Rattle.std.proofs.Common.{◌≡◌, ◌-◌, ◌^◌, ◌∙◌, ap, sym, suc, arith, ℕ}
use lib.Dec.{lit≤}
use Rattle.boolean.specs.Functions.{at, spectrum}
use Rattle.walsh.proofs.SpectrumHalves as halves
use Rattle.walsh.proofs.+descend.Goals as goal

pub butterfly-requires : goal.butterfly-requires
butterfly-requires t c =
    halves.crossing (halves.cut_in_the_middle c.requires.0 c.if-n-eq4.true (omega arith))
    c.descend.new.out c.descend.ensures c.descend-then-n-eq4.new.out c.descend-then-n-eq4.ensures (2 ^ 29) (lit≤ tt)

pub butterfly-requires-else-n-eq4 : goal.butterfly-requires-else-n-eq4
butterfly-requires-else-n-eq4 t c =
    let one_less : c.args.n ≡ suc (c.args.n - 1) = omega arith in
    halves.crossing (halves.cut_in_the_middle c.requires.0 one_less (omega arith))
    c.descend-else-n-eq4.new.out c.descend-else-n-eq4.ensures c.descend-else-n-eq4-2.new.out c.descend-else-n-eq4-2.ensures (2 ^ 29) (lit≤ tt)

pub returns-then-n-lt3 : goal.returns-then-n-lt3
returns-then-n-lt3 t c = halves.spectrum_is c.args.n _ c.by_definition.new.out c.by_definition.ensures

pub returns-then-n-eq3 : goal.returns-then-n-eq3
returns-then-n-eq3 t c =
    c.by_table.ensures ∙ ap (λ (n : ℕ). spectrum n (at c.args.table.now)) (sym c.if-n-eq3.true)

pub returns-then-n-eq4 : goal.returns-then-n-eq4
returns-then-n-eq4 t c =
    halves.right (halves.cut_in_the_middle c.requires.0 c.if-n-eq4.true (omega arith))
    c.descend.new.out c.descend.ensures c.descend-then-n-eq4.new.out c.descend-then-n-eq4.ensures
    c.butterfly.new.values c.butterfly.auto.values c.butterfly.ensures

pub returns-else-n-eq4 : goal.returns-else-n-eq4
returns-else-n-eq4 t c =
    let one_less : c.args.n ≡ suc (c.args.n - 1) = omega arith in
    halves.right (halves.cut_in_the_middle c.requires.0 one_less (omega arith))
    c.descend-else-n-eq4.new.out c.descend-else-n-eq4.ensures c.descend-else-n-eq4-2.new.out c.descend-else-n-eq4-2.ensures
    c.butterfly-else-n-eq4.new.values c.butterfly-else-n-eq4.auto.values c.butterfly-else-n-eq4.ensures
