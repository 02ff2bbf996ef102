use Rattle.std.proofs.Common.{◌+◌, refl, sym, ◌∙◌, rules, arith}
use Rattle.boolean.specs.Functions.{at}
use Rattle.boolean.proofs.Lists.{zeroes}
use Rattle.algebraic.proofs.Gathering.{Gathering, gathering_none, gathering_passed, gathering_put, gathering_all, gathering_full, none_zero}
use Rattle.algebraic.proofs.gather.Goals.{then-adds_word+else-lacks_row, else-adds_word}
use Rattle.algebraic.proofs.gather.Goals as goal

pub loop-u-init : goal.loop-u-init
loop-u-init c = gathering_none _ _ _ _ c.requires.3 refl (zeroes 32)

pub returns-then-lacks_row : goal.returns-then-lacks_row
returns-then-lacks_row c =
    let put = gathering_put c.loop-u.invariant c.by_ones-table.ensures c.loop-u-test.true c.requires.0 c.if-adds_word.ensures in
    let full = none_zero c.args.m c.adds_word.new.basis (omega (arith, put.places, c.requires.0)) (sym c.lacks_row.ensures ∙ c.if-lacks_row.true) in
    (omega (arith, put.few, put.within, put.long), gathering_full put c.by_ones-table.ensures c.requires.2 c.requires.1 full, put.long ∙ sym c.requires.3)

pub loop-u-preserved : goal.loop-u-preserved
loop-u-preserved c =
    let inv = c.loop-u.invariant in
    elim c.if-adds_word.branch [
      | then-adds_word+else-lacks_row w ↦
          rw (w.inputs-is, w.count-is) (gathering_put inv c.by_ones-table.ensures c.loop-u-test.true c.requires.0 w.if-adds_word.ensures)
      | else-adds_word w ↦
          rw (w.inputs-is, w.count-is) (gathering_passed inv c.by_ones-table.ensures c.loop-u-test.true w.if-adds_word.ensures)
    ]

pub returns : goal.returns
returns c =
    let inv = c.loop-u.invariant in
    (omega (arith, inv.few, inv.within, inv.long), gathering_all inv c.by_ones-table.ensures c.requires.2 (omega arith), search rules)
