use Rattle.std.proofs.Common.{◌∙◌, rules, tests}
use Rattle.std.proofs.lemmas.Iterator.{YieldsList-from_slice}
use Rattle.std.proofs.lemmas.Iterator.Consumers.{YieldsList-from_enumerate}
use Rattle.std.proofs.lemmas.Iterator.Search.{all_from_yields_List}
use Rattle.boolean.proofs.Distinct.{differs, all_differ}
use Rattle.boolean.proofs.Lists.{upper_part}
use Rattle.boolean.proofs.rows_distinct.Goals as goal

pub returns : goal.returns
returns g c =
    let same = g.T.PartialEq.eq in
    all_from_yields_List (differs same c.args.rows.now) _ _ _ c.all.ensures.ran
    (YieldsList-from_enumerate (YieldsList-from_slice c.args.rows.now cc) cc)
    (λ x b q k. search (rules, tests, upper_part))
    ∙ all_differ same c.args.rows.now
