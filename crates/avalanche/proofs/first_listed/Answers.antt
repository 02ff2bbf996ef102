use Rattle.std.proofs.Common.{ℕ, ◌<◌, length, sym, subst, rules}
use Rattle.std.proofs.lemmas.List.{get_or_read}
use Rattle.std.proofs.lemmas.Iterator.{YieldsList-from_slice}
use Rattle.std.proofs.lemmas.Iterator.Adapters.{serves_from_places}
use Rattle.avalanche.proofs.first_listed.Goals as goal

pub find-requires-clause-callable : goal.find-requires-clause-callable
find-requires-clause-callable c =
    serves_from_places (YieldsList-from_slice c.args.list.now cc) (λ x q h. search rules)
    (λ x k h e. let inside : x.now < length c.args.values.now = subst (λ (s : ℕ). s < length c.args.values.now) (sym (get_or_read c.args.list.now k x.now h e 0)) (c.requires.0 k h) in search rules)
