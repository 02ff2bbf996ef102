use Rattle.std.proofs.Common.{ℕ, ◌/◌, sym, ap, ◌∙◌}
use Rattle.avalanche.specs.Work.{change_candidate}
use Rattle.avalanche.proofs.Widest.{values_length, stays, replaced}
use Rattle.avalanche.proofs.with_correlation.Goals as goal

pub largest_within-largest-requires : goal.largest_within-largest-requires
largest_within-largest-requires c =
    let a = c.args in
    (c.requires.0.box.n_high, values_length a.n a.rows.now a.c a.j c.requires.0.values_are, c.requires.1)

pub first_change-s-requires : goal.first_change-s-requires
first_change-s-requires c =
    let a = c.args in
    let box = c.requires.0.box in
    (box.n_low, box.n_high, c.requires.0.j_low, values_length a.n a.rows.now a.c a.j c.requires.0.values_are, c.requires.1, c.largest_within-largest.ensures)

pub returns-then-is_preferred : goal.returns-then-is_preferred
returns-then-is_preferred c =
    let a = c.args in
    let share = ap (λ (k : ℕ). c.largest_within-largest.result / k) c.requires.0.box.size in
    replaced a.n a.rows.now a.c a.j c.requires.0.values_are c.largest_within-largest.ensures c.requires.0.box.n_low c.requires.0.j_low share
    (change_candidate a.found) (sym c.is_preferred.ensures ∙ c.if-is_preferred.true) c.first_change-s.ensures

pub returns-else-is_preferred : goal.returns-else-is_preferred
returns-else-is_preferred c =
    let a = c.args in
    let share = ap (λ (k : ℕ). c.largest_within-largest.result / k) c.requires.0.box.size in
    stays a.n a.rows.now a.c a.j c.requires.0.values_are c.largest_within-largest.ensures c.requires.0.box.n_low c.requires.0.j_low share
    (change_candidate a.found) (sym c.is_preferred.ensures ∙ c.if-is_preferred.false)
