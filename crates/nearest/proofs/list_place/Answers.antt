use Rattle.std.proofs.Common.{ℕ, arith, sym, ap, ◌∙◌, length, set}
use lib.Seq.{sets}
use lib.IntN.{nat_abs}
use Rattle.boolean.specs.Functions.{sign_bit}
use Rattle.boolean.proofs.Words.{word_told}
use Rattle.nearest.specs.NearestPairs.{code}
use Rattle.nearest.proofs.Component.{place_hit, place_miss}
use Rattle.nearest.proofs.list_place.Goals as goal

pub returns-then-magnitude-size : goal.returns-then-magnitude-size
returns-then-magnitude-size c =
    let a = c.args in
    let miss = place_miss a.c a.size a.w a.value (λ e. c.if-magnitude-size.true (c.magnitude.ensures ∙ ap nat_abs (word_told a.value c.ranges.value.sfits) ∙ e)) in
    (omega (arith, ap length miss), omega arith, sym (ap (sets a.list.now a.next) miss))

pub returns : goal.returns
returns c =
    let a = c.args in
    let hit = place_hit a.c a.size a.w a.value (sym (c.magnitude.ensures ∙ ap nat_abs (word_told a.value c.ranges.value.sfits)) ∙ c.if-magnitude-size.false) in (
      omega (arith, ap length hit),
      omega arith,
      c.put.ensures ∙ ap (λ (b : ℕ). set a.list.now a.next (code a.c a.w b)) (c.sign_bit-b.ensures ∙ ap sign_bit (word_told a.value c.ranges.value.sfits)) ∙ sym (ap (sets a.list.now a.next) hit),
    )
