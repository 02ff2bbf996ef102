use Rattle.std.proofs.Common.{not, sym, ◌∙◌, rules, tests}
use Rattle.std.proofs.lemmas.Iterator.{YieldsList-from_slice}
use Rattle.std.proofs.lemmas.Iterator.Search.{all_from_yields_List}
use Rattle.boolean.proofs.Every.{every_is}
use Rattle.boolean.proofs.lacks_row.Goals as goal

pub returns : goal.returns
returns g c =
    all_from_yields_List (λ y. not (g.T.PartialEq.eq c.args.row y)) _ _ _ c.all.ensures.ran (YieldsList-from_slice c.args.rows.now cc) (λ x b q k. search (rules, tests))
    ∙ sym (every_is _ c.args.rows.now)
