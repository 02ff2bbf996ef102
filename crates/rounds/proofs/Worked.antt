-- A worked case, computed from the definitions over all inputs: two boxes that each give the product of their two bits make a bent sum of four inputs.
use mathlib.Core.Path.{◌≡◌, refl}
use mathlib.Core.List.{[], ◌∷◌}
use lib.Count.{ones, ones_in}
use Rattle.boolean.specs.Bits.{parity, dot, affine}
use Rattle.boolean.specs.Sums.{count_below, one_if, each, keep, list_from, list_below}
use Rattle.boolean.specs.Functions.{component, components, distance}
use Rattle.boolean.specs.Selection.{best, first_least}
use Rattle.rounds.specs.Round.{Summand, summand_of, inputs_of, sum_at, sum_rows, masks_of_inputs, joined, sum_pairs_of, sum_pairs, sum_nonlinearity}

abbrev both_bits : Summand
both_bits = summand_of 2 1 (0 ∷ 0 ∷ 0 ∷ 1 ∷ [])

pub bent_sum : sum_nonlinearity (both_bits ∷ both_bits ∷ []) (components 1 1) ≡ record { figure = 6; witness = 1 ∷ 0 ∷ 0 ∷ 0 ∷ [] }
unfolding sum_nonlinearity sum_pairs sum_pairs_of masks_of_inputs joined sum_rows sum_at inputs_of components keep first_least best each list_below list_from distance count_below one_if affine dot parity ones ones_in component
bent_sum = refl
