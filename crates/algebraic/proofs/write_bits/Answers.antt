use Rattle.std.proofs.Common.{length, refl, sym, ◌∙◌, arith, rules}
use Rattle.boolean.specs.Functions.{at}
use Rattle.boolean.proofs.Filled.{filled_more, filled_whole}
use Rattle.boolean.proofs.Lists.{list_is}
use Rattle.algebraic.proofs.write_bits.Goals as goal

pub loop-x-preserved : goal.loop-x-preserved
loop-x-preserved c =
    filled_more 0 (at c.args.words.now) _ c.loop-x.x c.loop-x.out c.loop-x.invariant (omega arith) _ (search rules)

pub returns : goal.returns
returns c =
    let words = c.args.words.now in
    filled_whole 0 (at words) _ c.loop-x.x c.loop-x.out c.loop-x.invariant (omega arith)
    ∙ sym (list_is 0 (length words) (at words) words refl (λ i l. refl))
