use mathlib.Core.Path.{sym, ap, ◌∙◌}
use Prim.Native.Nat.{ℕ, ◌-◌, ◌/◌}
use native.Mathlib.Omega.{arith}
use borrow.Author.Rules.{rules}
use Rattle.boolean.specs.Functions.{value_at, sign_bit}
use Rattle.boolean.proofs.Words.{word_told}
use Rattle.linear.specs.Calls.{pair_candidate}
use Rattle.linear.proofs.Nearest.{values_length, values_nonempty, largest_le, taken, kept}
use Rattle.walsh.proofs.Magnitudes.{largest_of, place_inside}
use Rattle.linear.proofs.with_spectrum.Goals as goal

pub overflow_sub-count : goal.overflow_sub-count
overflow_sub-count c =
    let a = c.args in
    let top = largest_of a.values.now c.largest_magnitude-largest.ensures (values_nonempty a.n a.rows.now a.c c.requires.1) in
    let h = largest_le a.n a.rows.now a.c c.requires.1 c.requires.0.n_low top in
    omega (arith, c.requires.0.size)

-- the first place of the largest magnitude is a place
pub bounds-values-w : goal.bounds-values-w
bounds-values-w c =
    let a = c.args in
    let top = largest_of a.values.now c.largest_magnitude-largest.ensures (values_nonempty a.n a.rows.now a.c c.requires.1) in
    place_inside c.first_place-w.ensures top.place top.inside top.reached

pub overflow_cast-result : goal.overflow_cast-result
overflow_cast-result c =
    let a = c.args in
    omega (arith, c.first_place-w.ensures.within, values_length a.n a.rows.now a.c c.requires.1, c.requires.0.size, c.requires.0.small)

pub returns-then-is_preferred : goal.returns-then-is_preferred
returns-then-is_preferred c =
    let a = c.args in
    let top = largest_of a.values.now c.largest_magnitude-largest.ensures (values_nonempty a.n a.rows.now a.c c.requires.1) in
    taken a.n a.rows.now a.c c.requires.1 c.requires.0.n_low top (ap (λ (k : ℕ). k / 2 - c.largest_magnitude-largest.result) c.requires.0.size)
    (pair_candidate a.found) (sym c.is_preferred.ensures ∙ c.if-is_preferred.true) c.first_place-w.ensures
    (c.sign_bit-b.ensures ∙ ap sign_bit (word_told (value_at a.values.now c.first_place-w.result) (search rules)))

pub returns-else-is_preferred : goal.returns-else-is_preferred
returns-else-is_preferred c =
    let a = c.args in
    let top = largest_of a.values.now c.largest_magnitude-largest.ensures (values_nonempty a.n a.rows.now a.c c.requires.1) in
    kept a.n a.rows.now a.c c.requires.1 c.requires.0.n_low top (ap (λ (k : ℕ). k / 2 - c.largest_magnitude-largest.result) c.requires.0.size)
    (pair_candidate a.found) (sym c.is_preferred.ensures ∙ c.if-is_preferred.false)
