use Rattle.std.proofs.Common.{◌≡◌, ◌+◌, ◌∙◌, arith, rules, tests}
use Rattle.std.specs.List.{list_all, range_with_len}
use Rattle.std.proofs.lemmas.Iterator.{YieldsList-from_range}
use Rattle.std.proofs.lemmas.Iterator.Search.{all_from_yields_List}
use Rattle.avalanche.proofs.Completeness.{alters, every_listed}
use Rattle.avalanche.proofs.every_column_changes.Goals as goal

pub returns : goal.returns
returns c =
    let a = c.args in
    let is : c.all.result ≡ list_all (alters a.n a.rows.now a.flip) (range_with_len 1 a.m) =
    all_from_yields_List _ _ _ c.all.result c.all.ensures.ran (YieldsList-from_range 1 (a.m + 1) a.m (cc) (omega arith)) (λ x b q k. search (rules, tests)) in
    is ∙ every_listed _ 1 a.m
