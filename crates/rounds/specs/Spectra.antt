-- The sum of boxes by the boxes' spectra: products of the largest magnitudes of W(w), each twice the spectrum's.
use Rattle.std.specs.Prelude.{ℕ, ◌-◌, ◌*◌, ◌/◌, ◌^◌, Bool, List, [], ◌∷◌, ◌++◌, ltb, nat_abs}
use Rattle.std.specs.Int.Bits.{bit_xor}
use Rattle.boolean.specs.Sums.{each, list_below}
use Rattle.boolean.specs.Functions.{at, component, walsh, sign_bit}
use Rattle.boolean.specs.Selection.{Candidate, first_largest}
use Rattle.rounds.specs.Round.{Summand, inputs_of}

-- the largest magnitude of W(w) of component c of a box, with the first mask that has it
unfoldable pub peak : (s : Summand) (c : ℕ) → Candidate
unfolding list_below walsh first_largest
peak s c =
    first_largest
    (list_below (2 ^ s.inputs) (λ w. record { figure = nat_abs (walsh s.inputs (component s.rows c) w); witness = w ∷ [] }))

-- the product of the boxes' largest magnitudes
unfoldable pub product : (ss : List Summand) (c : ℕ) → ℕ
unfolding peak
product [] c = 1
product (s ∷ ss) c = (peak s c).figure * product ss c

-- the first masks that have them, from box 1 on
unfoldable pub peak_places : (ss : List Summand) (c : ℕ) → List ℕ
unfolding peak
peak_places [] c = []
peak_places (s ∷ ss) c = at (peak s c).witness 0 ∷ peak_places ss c

-- the sign bit of the product of W(w) at a mask for each box: the XOR of their sign bits
unfoldable pub sign_at : (ss : List Summand) (c : ℕ) (ws : List ℕ) → ℕ
unfolding walsh component sign_bit
sign_at [] c ws = 0
sign_at (s ∷ ss) c [] = 0
sign_at (s ∷ ss) c (w ∷ ws) = bit_xor (sign_bit (walsh s.inputs (component s.rows c) w)) (sign_at ss c ws)

-- what the spectra give for component c: 2^(N − 1) less half the product, with the masks and b
abbrev pub by_spectra : (ss : List Summand) (c : ℕ) → Candidate
by_spectra ss c =
    record {
      figure = 2 ^ (inputs_of ss - 1) - product ss c / 2;
      witness = c ∷ (peak_places ss c ++ (sign_at ss c (peak_places ss c) ∷ []));
    }

-- a larger product
abbrev pub larger : (ss : List Summand) (c b : ℕ) → Bool
larger ss c b = ltb (product ss b) (product ss c)

-- component c with its product, as a candidate
abbrev pub factored : (ss : List Summand) (c : ℕ) → Candidate
factored ss c = record { figure = product ss c; witness = c ∷ [] }

-- the first component, of those in cs, of the largest product
unfoldable pub largest_product : (ss : List Summand) (cs : List ℕ) → Candidate
unfolding product each first_largest
largest_product ss cs = first_largest (each cs (λ c. factored ss c ∷ []))
