use Rattle.std.proofs.Common.{ℕ, List, refl, sym, ap, ◌∙◌, arith}
use Rattle.boolean.specs.Functions.{at}
use Rattle.algebraic.proofs.Basis.{reducing_placed, reducing_taken, taken_less, reducing_ends}
use Rattle.algebraic.proofs.insert_word.Goals as goal

pub returns-then-here-eq0 : goal.returns-then-here-eq0
returns-then-here-eq0 c =
    let place = c.ilog2-place.result in
    let top = c.ilog2-place.ensures in
    let same = c.loop-rest.invariant.0 in
    rw same
    (reducing_placed c.loop-rest.invariant.1 place top.power_le top.next_power_gt (ap (λ (l : List ℕ). at l place) (sym same) ∙ c.if-here-eq0.true))

pub loop-rest-smaller : goal.loop-rest-smaller
loop-rest-smaller c =
    let place = c.ilog2-place.result in
    let top = c.ilog2-place.ensures in
    let same = c.loop-rest.invariant.0 in
    rw same
    (omega (
      arith,
      top.power_le,
      taken_less c.loop-rest.invariant.1 place top.power_le top.next_power_gt c.requires.2
          (λ z. c.if-here-eq0.false (ap (λ (l : List ℕ). at l place) same ∙ z)),
    ))

pub loop-rest-preserved : goal.loop-rest-preserved
loop-rest-preserved c =
    let place = c.ilog2-place.result in
    let top = c.ilog2-place.ensures in
    let same = c.loop-rest.invariant.0 in
    rw same (
      refl,
      reducing_taken c.loop-rest.invariant.1 place top.power_le top.next_power_gt c.requires.2
          (λ z. c.if-here-eq0.false (ap (λ (l : List ℕ). at l place) same ∙ z)),
    )

pub returns : goal.returns
returns c = rw c.loop-rest.invariant.0 (reducing_ends c.loop-rest.invariant.1 c.loop-rest-test.false)
