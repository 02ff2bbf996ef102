use Rattle.std.proofs.Common.{◌≡◌, ℕ, List, refl, ap, ◌∙◌, rules}
use Rattle.boolean.specs.Functions.{at, normal_form}
use Rattle.algebraic.proofs.Gathering.{words_lt}
use Rattle.algebraic.proofs.Sweeping.{by_words}
use Rattle.algebraic.proofs.weakest_of.Goals as goal

pub gather-count-requires : goal.gather-count-requires
gather-count-requires c =
    let a = c.args in
    let formed : c.moebius.new.values ≡ normal_form a.n (at a.rows.now) = c.moebius.ensures ∙ ap (λ (l : List ℕ). normal_form a.n (at l)) c.copy_from_slice.ensures.after in
    (c.requires.0.m_high, words_lt a.n a.m a.rows.now _ formed c.requires.0.below, search rules, search rules)

pub returns : goal.returns
returns c =
    let a = c.args in
    let formed : c.moebius.new.values ≡ normal_form a.n (at a.rows.now) = c.moebius.ensures ∙ ap (λ (l : List ℕ). normal_form a.n (at l)) c.copy_from_slice.ensures.after in
    (c.sweep.ensures.0 ∙ by_words a.n a.m a.rows.now a.i _ formed, c.sweep.ensures.1, formed, search rules)
