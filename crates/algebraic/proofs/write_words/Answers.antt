use Rattle.std.proofs.Common.{length, refl, sym, ◌∙◌, arith, rules}
use Rattle.boolean.specs.Functions.{at}
use Rattle.boolean.proofs.Filled.{filled_more, filled_whole}
use Rattle.boolean.proofs.Lists.{list_is}
use Rattle.algebraic.proofs.write_words.Goals as goal

pub loop-x-preserved : goal.loop-x-preserved
loop-x-preserved c =
    filled_more 0 (at c.args.table.now) _ c.loop-x.x c.loop-x.words c.loop-x.invariant (omega arith) _ (search rules)

pub returns : goal.returns
returns c =
    let table = c.args.table.now in
    filled_whole 0 (at table) _ c.loop-x.x c.loop-x.words c.loop-x.invariant (omega arith)
    ∙ sym (list_is 0 (length table) (at table) table refl (λ i l. refl))
