use Rattle.std.proofs.Common.{◌≡◌, ◌∙◌, refl, suc, arith, rules, tests}
use Rattle.std.specs.List.{list_all, range_with_len}
use Rattle.std.proofs.lemmas.Iterator.Search.{all_from_yields_List}
use Rattle.std.proofs.lemmas.Iterator.{serves_from_Range, YieldsList-from_range}
use Rattle.std.proofs.Math.Pow.{pow-lt}
use Rattle.avalanche.specs.Avalanche.{complete}
use Rattle.avalanche.proofs.Completeness.{alters_all, every_after}
use Rattle.avalanche.proofs.all_complete.Goals as goal

pub all-requires-clause-callable : goal.all-requires-clause-callable
all-requires-clause-callable c = serves_from_Range (λ x q h. search rules) (λ x l h. let high = c.requires.n_high in let inside = pow-lt h in search rules)

pub returns : goal.returns
unfolding complete
returns c =
    let a = c.args in
    let is : c.all.result ≡ list_all (λ k. alters_all a.n a.m a.rows.now (suc k)) (range_with_len 0 a.n) =
    all_from_yields_List _ _ _ c.all.result c.all.ensures.ran (YieldsList-from_range 0 a.n a.n (cc) (omega arith)) (λ x b q k. search (rules, tests)) in
    is ∙ every_after (alters_all a.n a.m a.rows.now) _ 0 a.n (λ j. refl)
