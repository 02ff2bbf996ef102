-- The test of every value is the one that the list is asked.
use Rattle.std.proofs.Common.{sym, ◌∙◌, rules, tests, ltb}
use Rattle.std.proofs.lemmas.Iterator.{YieldsList-from_slice}
use Rattle.std.proofs.lemmas.Iterator.Search.{all_from_yields_List}
use Rattle.boolean.proofs.Every.{every_is}
use Rattle.refusals.proofs.values_below.Goals as goal

pub returns : goal.returns
returns c =
    all_from_yields_List (λ y. ltb y c.args.limit) _ _ _ c.all.ensures.ran (YieldsList-from_slice c.args.table.now cc) (λ x b q k. search (rules, tests))
    ∙ sym (every_is _ c.args.table.now)
