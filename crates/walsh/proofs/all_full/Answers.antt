use Rattle.std.proofs.Common.{sym, ◌∙◌, rules, tests}
use Rattle.std.proofs.lemmas.Iterator.{YieldsList-from_slice}
use Rattle.std.proofs.lemmas.Iterator.Search.{all_from_yields_List}
use lib.Dec.{leb, eqb}
use lib.IntN.{nat_abs}
use Rattle.boolean.proofs.Every.{every_is}
use Rattle.walsh.proofs.all_full.Goals as goal

pub returns : goal.returns
returns c =
    all_from_yields_List (λ v. eqb (nat_abs v) c.args.size) _ _ _ c.all.ensures.ran (YieldsList-from_slice c.args.values.now cc) (λ x b q k. search (rules, tests))
    ∙ sym (every_is _ c.args.values.now)
