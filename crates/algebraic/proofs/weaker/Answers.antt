use Rattle.std.proofs.Common.{[], sym, ◌∙◌}
use Rattle.boolean.specs.Selection.{best, lower, ranked}
use Rattle.boolean.proofs.Selection.{best_takes, best_keeps}
use Rattle.masks.specs.Masks.{outputs}
use Rattle.algebraic.specs.Work.{degree_at, degree_candidate}
use Rattle.algebraic.proofs.weaker.Goals as goal

pub returns-then-is_preferred : goal.returns-then-is_preferred
unfolding best
returns-then-is_preferred c =
    let a = c.args in (
      sym (best_takes (ranked lower outputs) (degree_candidate a.found) (degree_at a.degree a.c) [] (sym c.is_preferred.ensures ∙ c.if-is_preferred.true)),
      c.threshold_of-threshold.ensures,
    )

pub returns-else-is_preferred : goal.returns-else-is_preferred
unfolding best
returns-else-is_preferred c =
    let a = c.args in
    (sym (best_keeps (ranked lower outputs) (degree_candidate a.found) (degree_at a.degree a.c) [] (sym c.is_preferred.ensures ∙ c.if-is_preferred.false)), c.requires.1)
