use Rattle.std.proofs.Common.{◌≡◌, ℕ, not, eqb, ap, ◌∙◌, length, arith, rules, tests}
use Rattle.std.specs.List.{list_any, range_with_len}
use Rattle.std.proofs.lemmas.Iterator.{serves_from_Range, YieldsList-from_range}
use Rattle.std.proofs.lemmas.Iterator.Search.{any_from_yields_List}
use Rattle.boolean.specs.Functions.{column, changes}
use Rattle.boolean.specs.Sums.{count_below}
use Rattle.avalanche.proofs.Completeness.{differs, flipped_inside, some_below}
use Rattle.avalanche.proofs.column_changes.Goals as goal

pub any-requires-clause-callable : goal.any-requires-clause-callable
any-requires-clause-callable c =
    serves_from_Range (λ x q h. search rules)
    (λ x l h.
    let inside = flipped_inside c.args.n c.args.rows.now c.args.flip x c.requires.0.size c.requires.1 h in
    let high = c.requires.0.m_high in
    search rules)

pub returns : goal.returns
unfolding column changes
returns c =
    let a = c.args in
    let size = length a.rows.now in
    let is : c.any.result ≡ list_any (differs a.rows.now a.flip a.j) (range_with_len 0 size) =
    any_from_yields_List (differs a.rows.now a.flip a.j) _ _ c.any.result c.any.ensures.ran (YieldsList-from_range 0 size size (cc) (omega arith)) (λ x b q k. search (rules, tests)) in
    is ∙ some_below (differs a.rows.now a.flip a.j) size
    ∙ ap (λ (k : ℕ). not (eqb (count_below k (differs a.rows.now a.flip a.j)) 0)) c.requires.0.size
