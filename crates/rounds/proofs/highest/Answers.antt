-- `rounds::highest` meets its contract: the first place of the largest magnitude is asked for. Assumes nothing.
use mathlib.Core.Path.{refl, ap, ◌∙◌}
use Rattle.boolean.specs.Functions.{value_at, sign_bit}
use Rattle.boolean.proofs.Words.{word_told}
use Rattle.walsh.proofs.Magnitudes.{Largest, largest_of, place_inside}
use Rattle.rounds.proofs.Tops.{highest_is}
use Rattle.rounds.proofs.highest.Goals as goal

-- so its first place is a place
pub bounds-values-place : goal.bounds-values-place
bounds-values-place c =
    let top : Largest c.args.values.now c.largest_magnitude-most.result = largest_of c.args.values.now c.largest_magnitude-most.ensures c.requires.0 in
    let t = top in place_inside c.first_place-place.ensures t.place t.inside t.reached

pub returns : goal.returns
returns c =
    let top : Largest c.args.values.now c.largest_magnitude-most.result = largest_of c.args.values.now c.largest_magnitude-most.ensures c.requires.0 in
    let values = c.args.values.now in
    highest_is values _ c.first_place-place.result top c.first_place-place.ensures _ refl
    (c.sign_bit-sign.ensures ∙ ap sign_bit (word_told (value_at values c.first_place-place.result) c.sign_bit-arg-1.given))
