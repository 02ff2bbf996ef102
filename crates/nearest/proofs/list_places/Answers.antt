use Rattle.std.proofs.Common.{◌≡◌, ◌+◌, arith, rules, ap, ◌∙◌, List, ℕ, length}
use lib.Seq.{sets}
use Rattle.boolean.specs.Functions.{value_at}
use Rattle.boolean.proofs.Words.{word, word_told}
use Rattle.nearest.specs.Work.{pair_number_at}
use Rattle.nearest.proofs.Loops.{placing_none, placing_next, placing_all}
use Rattle.nearest.proofs.list_places.Goals as goal

pub loop-w-init : goal.loop-w-init
loop-w-init c = placing_none

pub loop-w-preserved : goal.loop-w-preserved
loop-w-preserved c =
    let a = c.args in
    let l = c.loop-w in
    let value = value_at a.values.now l.w in
    let read : pair_number_at a.c a.size l.w (word value) ≡ pair_number_at a.c a.size l.w value = ap (pair_number_at a.c a.size l.w) (word_told value (search rules)) in
    placing_next l.invariant c.loop-w-test.true c.list_place-next.ensures.1
    (c.list_place-next.ensures.0 ∙ ap (λ (k : List ℕ). l.next + length k) read) (c.list_place-next.ensures.2 ∙ ap (sets l.list l.next) read)

pub returns : goal.returns
returns c =
    let t = placing_all c.loop-w.invariant c.loop-w-test.false in
    (t.0, omega (arith, c.loop-w.invariant.few, c.loop-w.invariant.within), t.1)
