-- Packed columns byte by byte: which column comes first, and which truth value is the lowest bit of its byte. Round trips alone would hold
-- in any order. Assumes nothing.
use Prim.Native.Nat.{ℕ}
use mathlib.Core.Path.{◌≡◌, refl}
use mathlib.Core.List.{List, [], ◌∷◌}
use Rattle.boolean.specs.Bits.{bit}
use Rattle.boolean.specs.Sums.{total_below, list_from, list_below}
use Rattle.boolean.specs.Functions.{column}
use Rattle.packing.specs.Packing.{column_bytes, packed_byte, packed, packed_value, unpacked_row, unpacked}

-- three inputs and two outputs: column 1 is 1 at the inputs 0, 1 and 3, column 2 at the input 6 alone
abbrev pub eight_rows : List ℕ
eight_rows = 1 ∷ 1 ∷ 0 ∷ 1 ∷ 0 ∷ 0 ∷ 2 ∷ 0 ∷ []

pub lowest_bit_first : packed 3 2 eight_rows ≡ 11 ∷ 64 ∷ []
unfolding packed packed_byte column_bytes column bit total_below list_below list_from
lowest_bit_first = refl

pub lowest_bit_read : unpacked 3 2 (11 ∷ 64 ∷ []) ≡ eight_rows
unfolding unpacked unpacked_row packed_value column_bytes bit total_below list_below list_from
lowest_bit_read = refl

-- one input and two outputs: a byte for each column, of which the two lowest bits are used
pub byte_each : packed 1 2 (1 ∷ 2 ∷ []) ≡ 1 ∷ 2 ∷ []
unfolding packed packed_byte column_bytes column bit total_below list_below list_from
byte_each = refl

-- four inputs: two bytes for a column, the lower inputs first
pub lower_inputs_first : packed 4 1 (1 ∷ 0 ∷ 0 ∷ 0 ∷ 0 ∷ 0 ∷ 0 ∷ 0 ∷ 0 ∷ 1 ∷ 0 ∷ 0 ∷ 0 ∷ 0 ∷ 0 ∷ 0 ∷ []) ≡ 1 ∷ 2 ∷ []
unfolding packed packed_byte column_bytes column bit total_below list_below list_from
lower_inputs_first = refl
