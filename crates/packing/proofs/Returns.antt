-- Packed and back, bit by bit: where a truth value stands in the packed form, and in the rows. Assumes nothing.
use mathlib.Core.Path.{◌≡◌, sym, ap, ap₂, ◌∙◌}
use mathlib.Core.List.{List}
use Prim.Native.Nat.{ℕ, ◌+◌, ◌*◌, ◌-◌, ◌/◌, ◌%◌, ◌^◌, ◌<◌, ◌≤◌}
use native.Mathlib.Omega.{arith}
use native.Mathlib.Decide.{dec_lt}
use lib.ListN.{length, get_or-eq_default}
use Rattle.boolean.specs.Bits.{bit}
use Rattle.boolean.specs.Functions.{at, column}
use Rattle.boolean.proofs.Columns.{column_lt}
use Rattle.boolean.proofs.Digits.{bit_lt}
use Rattle.boolean.proofs.Lists.{length_list_below, get_or_list_below}
use Rattle.packing.specs.Packing.{column_bytes, packed_byte, packed, packed_value, unpacked_row, unpacked, used_bits}
use Rattle.packing.proofs.Binary.{bit_zero, number_lt, number_bit}
use Rattle.packing.proofs.Widths.{bytes_hold, bytes_one, bytes_eight, used_few, used_all}
use Rattle.packing.proofs.Places.{byte_column, byte_place, column_inside}

-- the bits past those that are used stand for no input
pub past_inputs : (n y t : ℕ) → used_bits n ≤ t → t < 8 → 2 ^ n ≤ 8 * y + t
past_inputs n y t u l = pick (dec_lt n 3)
  where
    pick : Dec (n < 3) → 2 ^ n ≤ 8 * y + t
    pick (yes h) = omega (arith, (used_few n h).0)
    pick (no h) = absurd (omega (arith, used_all n (omega arith)))

-- and a bit that stands for no input is past those that are used
pub past_used : (n y t : ℕ) → y < column_bytes n → t < 8 → 2 ^ n ≤ 8 * y + t → used_bits n ≤ t
past_used n y t i l far = pick (dec_lt n 3)
  where
    pick : Dec (n < 3) → used_bits n ≤ t
    pick (yes h) = omega (arith, (used_few n h).0, bytes_one n h)
    pick (no h) = absurd (omega (arith, bytes_eight n (omega arith)))

module _ (n m : ℕ) (rows : List ℕ) where
  pub length_packed : length (packed n m rows) ≡ m * column_bytes n
  unfolding packed
  length_packed = length_list_below (m * column_bytes n) _

  -- byte y of column j
  pub packed_at : (j y : ℕ) → 1 ≤ j → j ≤ m → y < column_bytes n → at (packed n m rows) ((j - 1) * column_bytes n + y) ≡ packed_byte rows j y
  unfolding packed
  packed_at j y low high l =
      let size : ℕ = column_bytes n in
      let inside : (j - 1) * size + y < m * size = omega (arith, column_inside (j - 1) m size (omega arith)) in
      let named : j - 1 + 1 ≡ j = omega arith in
      get_or_list_below (m * size) _ ((j - 1) * size + y) 0 inside
      ∙ ap₂ (λ (a b : ℕ). packed_byte rows (a + 1) b) (byte_column (j - 1) y size l) (byte_place (j - 1) y size l) ∙ ap (λ (a : ℕ). packed_byte rows a y) named

pub packed_bit : (rows : List ℕ) (j y t : ℕ) → t < 8 → bit (t + 1) (packed_byte rows j y) ≡ column rows j (8 * y + t)
unfolding packed_byte
packed_bit rows j y t l = number_bit (λ t. column rows j (8 * y + t)) (λ t. column_lt rows j (8 * y + t)) 8 t l

-- column j of the rows is exactly the bits of its bytes
pub column_packed : (n m : ℕ) (rows : List ℕ) (j x : ℕ) → n ≤ 8 → 1 ≤ j → j ≤ m → x < 2 ^ n → packed_value n (packed n m rows) j x ≡ column rows j x
unfolding packed_value
column_packed n m rows j x few low high l =
    let inside : x / 8 < column_bytes n = omega (arith, bytes_hold n few) in
    let place : 8 * (x / 8) + x % 8 ≡ x = omega arith in
    ap (bit (x % 8 + 1)) (packed_at n m rows j (x / 8) low high inside) ∙ packed_bit rows j (x / 8) (x % 8) (omega arith) ∙ ap (column rows j) place

module _ (n m : ℕ) (bytes : List ℕ) where
  pub length_unpacked : length (unpacked n m bytes) ≡ 2 ^ n
  unfolding unpacked
  length_unpacked = length_list_below (2 ^ n) _

  pub unpacked_at : (x : ℕ) → x < 2 ^ n → at (unpacked n m bytes) x ≡ unpacked_row n m bytes x
  unfolding unpacked
  unpacked_at x l = get_or_list_below (2 ^ n) _ x 0 l

  pub value_lt : (j x : ℕ) → packed_value n bytes j x < 2
  unfolding packed_value
  value_lt j x = bit_lt (x % 8 + 1) (at bytes ((j - 1) * column_bytes n + x / 8))

  pub row_lt : (x : ℕ) → unpacked_row n m bytes x < 2 ^ m
  unfolding unpacked_row
  row_lt x = number_lt (λ j. packed_value n bytes (j + 1) x) (λ j. value_lt (j + 1) x) m

  row_bit : (j x : ℕ) → j < m → bit (j + 1) (unpacked_row n m bytes x) ≡ packed_value n bytes (j + 1) x
  unfolding unpacked_row
  row_bit j x l = number_bit (λ j. packed_value n bytes (j + 1) x) (λ j. value_lt (j + 1) x) m j l

  pub column_unpacked : (j x : ℕ) → 1 ≤ j → j ≤ m → x < 2 ^ n → column (unpacked n m bytes) j x ≡ packed_value n bytes j x
  unfolding column
  column_unpacked j x low high l =
      let named : j - 1 + 1 ≡ j = omega arith in
      ap (bit j) (unpacked_at x l) ∙ ap (λ (i : ℕ). bit i (unpacked_row n m bytes x)) (sym named) ∙ row_bit (j - 1) x (omega arith)
      ∙ ap (λ (i : ℕ). packed_value n bytes i x) named

-- past the last input a column has no value
pub column_past : (rows : List ℕ) (j x : ℕ) → length rows ≤ x → column rows j x ≡ 0
unfolding column
column_past rows j x far = ap (bit j) (get_or-eq_default rows 0 far) ∙ bit_zero j
