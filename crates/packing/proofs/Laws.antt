-- What the words hold: the bytes of the packed form, and the bits of the rows. Assumes nothing.
use mathlib.Core.Path.{◌≡◌, sym, ap, ap₂, ◌∙◌}
use mathlib.Core.List.{List}
use Prim.Native.Nat.{ℕ, zero, suc, ◌+◌, ◌*◌, ◌-◌, ◌/◌, ◌%◌, ◌^◌, ◌<◌, ◌≤◌}
use native.Mathlib.Nat.{zero-add, add-mul, mul-one, mul-le-mul_right, mod-lt, lt_of_lt_of_le, div-lt_iff_lt-mul}
use native.Mathlib.Omega.{arith}
use lib.ListN.{length, get_or-eq_default}
use lib.Pow.{pow_mono}
use Rattle.boolean.specs.Bits.{bit}
use Rattle.boolean.specs.Sums.{total_below, list_below}
use Rattle.boolean.specs.Functions.{at, column}
use Rattle.boolean.proofs.Counts.{total_cong}
use Rattle.boolean.proofs.Lists.{list_below_cong}
use Rattle.packing.specs.Packing.{column_bytes, packed_byte, packed, packed_value, unpacked_row, unpacked}
use Rattle.packing.specs.Work.{word_of, byte_of, eight, bits_gathered, Columns, Padded, GatheredWords, word_byte, four_bytes_at, BytesWords}
use Rattle.packing.proofs.Binary.{bit_of_byte, bit_past, number_ends, four_bytes_of_bits}
use Rattle.packing.proofs.Widths.{bytes_low, bytes_hold, used_most}
use Rattle.packing.proofs.Gathering.{byte_lt, word_is}
use Rattle.packing.proofs.Places.{byte_column, byte_place, word_near}

-- byte g of a word is that of the column 8 g + i + 1
pub byte_of_four : (b : ℕ → ℕ) (i g : ℕ) → ((j : ℕ) → b j < 256) → g < 4 → word_of b i / 256 ^ g % 256 ≡ b (8 * g + i + 1)
unfolding word_of
byte_of_four b i zero small h =
    let e : b (i + 1) ≡ b (8 * 0 + i + 1) = ap b (let a : i + 1 ≡ 8 * 0 + i + 1 = omega arith in a) in
    omega (arith, e, small (i + 1), small (i + 9), small (i + 17), small (i + 25))
byte_of_four b i (suc zero) small h =
    let e : b (i + 9) ≡ b (8 * 1 + i + 1) = ap b (let a : i + 9 ≡ 8 * 1 + i + 1 = omega arith in a) in
    omega (arith, e, small (i + 1), small (i + 9), small (i + 17), small (i + 25))
byte_of_four b i (suc (suc zero)) small h =
    let e : b (i + 17) ≡ b (8 * 2 + i + 1) = ap b (let a : i + 17 ≡ 8 * 2 + i + 1 = omega arith in a) in
    omega (arith, e, small (i + 1), small (i + 9), small (i + 17), small (i + 25))
byte_of_four b i (suc (suc (suc zero))) small h =
    let e : b (i + 25) ≡ b (8 * 3 + i + 1) = ap b (let a : i + 25 ≡ 8 * 3 + i + 1 = omega arith in a) in
    omega (arith, e, small (i + 1), small (i + 9), small (i + 17), small (i + 25))
byte_of_four b i (suc (suc (suc (suc g)))) small h = absurd (omega arith)

-- eight rows, gathered: a byte of the packed form
gathered_byte : (rows padded : List ℕ) → Padded rows padded → (y j : ℕ) → byte_of (eight padded (8 * y) 1) j ≡ packed_byte rows j y
unfolding byte_of packed_byte column
gathered_byte rows padded same y j =
    total_cong 8 _ _ (λ t l. ap (λ (v : ℕ). bit j v * 2 ^ t) (ap (λ (k : ℕ). at padded (8 * y + k)) (mul-one t) ∙ same (8 * y + t)))

module _ (rows padded words : List ℕ) (size : ℕ) (same : Padded rows padded) (held : GatheredWords padded size words) where
  -- byte p of the packed form, from the words
  pub byte_from_words : (p : ℕ) → 1 ≤ size → p / size < 32 → word_byte words size p ≡ packed_byte rows (p / size + 1) (p % size)
  unfolding word_byte bits_gathered
  byte_from_words p some few =
      let j : ℕ = p / size in
      let y : ℕ = p % size in
      let y_lt : y < size = mod-lt p some in
      let q_lt : j % 8 * size + y < 8 * size = omega (arith, word_near j size) in
      let b = byte_of (eight padded (8 * y) 1) in
      let eighth : 8 * (j / 8) + j % 8 + 1 ≡ j + 1 = omega arith in
      ap (λ (v : ℕ). v / 256 ^ (j / 8) % 256)
      (held (j % 8 * size + y) q_lt
      ∙ ap₂ (λ (a c : ℕ). word_of (byte_of (eight padded (8 * a) 1)) c) (byte_place (j % 8) y size y_lt) (byte_column (j % 8) y size y_lt))
      ∙ byte_of_four b (j % 8) (j / 8) (byte_lt (eight padded (8 * y) 1)) (omega arith) ∙ ap b eighth ∙ gathered_byte rows padded same y (j + 1)

pub packed_from_words : (n m : ℕ) (rows padded words : List ℕ) → m ≤ 32 → Padded rows padded → GatheredWords padded (column_bytes n) words
    → list_below (m * column_bytes n) (word_byte words (column_bytes n)) ≡ packed n m rows
unfolding packed
packed_from_words n m rows padded words few same held =
    list_below_cong (m * column_bytes n) _ _ (λ p l. byte_from_words rows padded words (column_bytes n) same held p (bytes_low n)
    (lt_of_lt_of_le ((div-lt_iff_lt-mul (bytes_low n)).1 l) few))

-- the truth value of the column after j others, at an input whose bit is bit k + 1 of byte y
abbrev pub value_at : List ℕ → ℕ → ℕ → ℕ → ℕ → ℕ
value_at bytes size k y j = bit (k + 1) (at bytes (j * size + y))

-- the bits of a word that has four bytes
module _ (bytes : List ℕ) (small : (p : ℕ) → at bytes p < 256) (size y t : ℕ) where
  place : (a : ℕ) → y + t * size + a * size ≡ (a + t) * size + y
  place a = omega (arith, add-mul a t size)

  bytes_of_word : let q : ℕ = y + t * size in let v : ℕ = four_bytes_at bytes size q in
      (v / 2 ^ 0 % 256 ≡ at bytes q) × (v / 2 ^ 8 % 256 ≡ at bytes (q + 8 * size)) × (v / 2 ^ 16 % 256 ≡ at bytes (q + 16 * size)) × (v / 2 ^ 24 % 256 ≡ at bytes (q + 24 * size))
  unfolding four_bytes_at
  bytes_of_word =
      let q : ℕ = y + t * size in
      let a = small q in
      let b = small (q + 8 * size) in
      let c = small (q + 16 * size) in
      let d = small (q + 24 * size) in
      (omega arith, omega arith, omega arith, omega arith)

  bits_of_word : (k : ℕ) → k < 8 → let v : ℕ = four_bytes_at bytes size (y + t * size) in
      (bit (k + 1) v ≡ value_at bytes size k y (0 + t)) × (bit (k + 9) v ≡ value_at bytes size k y (8 + t))
      × (bit (k + 17) v ≡ value_at bytes size k y (16 + t)) × (bit (k + 25) v ≡ value_at bytes size k y (24 + t))
  bits_of_word k low =
      let v : ℕ = four_bytes_at bytes size (y + t * size) in
      let first : y + t * size ≡ (0 + t) * size + y = omega (arith, place 0) in (
        bit_of_byte v k 0 (k + 1) low (omega arith) ∙ ap (bit (k + 1)) (bytes_of_word.0 ∙ ap (at bytes) first),
        bit_of_byte v k 8 (k + 9) low (omega arith) ∙ ap (bit (k + 1)) (bytes_of_word.1 ∙ ap (at bytes) (place 8)),
        bit_of_byte v k 16 (k + 17) low (omega arith) ∙ ap (bit (k + 1)) (bytes_of_word.2 ∙ ap (at bytes) (place 16)),
        bit_of_byte v k 24 (k + 25) low (omega arith) ∙ ap (bit (k + 1)) (bytes_of_word.3 ∙ ap (at bytes) (place 24)),
      )

-- eight words, gathered: a row, bit after bit
module _ (bytes words : List ℕ) (small : (p : ℕ) → at bytes p < 256) (size : ℕ) (held : BytesWords bytes size words) (y k : ℕ) (inside : y < size) (low : k < 8) where
  word_held : (t : ℕ) → t < 8 → at words (y + t * size) ≡ four_bytes_at bytes size (y + t * size)
  word_held t l =
      let far : t * size ≤ 7 * size = mul-le-mul_right size (let few : t ≤ 7 = omega arith in few) in
      held (y + t * size) (omega arith)

  -- a byte of bit j of the words, where that is the truth value of the columns from a on
  byte_held : (j a : ℕ) → ((t : ℕ) → bit j (four_bytes_at bytes size (y + t * size)) ≡ value_at bytes size k y (a + t))
      → byte_of (eight words y size) j ≡ total_below 8 (λ t. value_at bytes size k y (a + t) * 2 ^ t)
  unfolding byte_of
  byte_held j a is = total_cong 8 _ _ (λ t l. ap (λ (v : ℕ). v * 2 ^ t) (ap (bit j) (word_held t l) ∙ is t))

  row_held : bits_gathered words y size k ≡ total_below 32 (λ j. value_at bytes size k y j * 2 ^ j)
  unfolding bits_gathered
  row_held =
      let first : byte_of (eight words y size) (k + 1) ≡ total_below 8 (λ t. value_at bytes size k y t * 2 ^ t) =
      byte_held (k + 1) 0 (λ t. (bits_of_word bytes small size y t k low).0)
      ∙ total_cong 8 _ _ (λ t l. ap (λ (i : ℕ). value_at bytes size k y i * 2 ^ t) (zero-add t)) in
      word_is (byte_of (eight words y size)) k first (byte_held (k + 9) 8 (λ t. (bits_of_word bytes small size y t k low).1))
      (byte_held (k + 17) 16 (λ t. (bits_of_word bytes small size y t k low).2)) (byte_held (k + 25) 24 (λ t. (bits_of_word bytes small size y t k low).3))
      ∙ sym (four_bytes_of_bits (value_at bytes size k y))

-- past its last column a packed form holds no truth value
none_past : (bytes : List ℕ) (m size k y j : ℕ) → length bytes ≡ m * size → m ≤ j → value_at bytes size k y j ≡ 0
none_past bytes m size k y j e l =
    let far : m * size ≤ j * size = mul-le-mul_right size l in
    ap (bit (k + 1)) (get_or-eq_default bytes 0 (let ge : length bytes ≤ j * size + y = omega arith in ge)) ∙ bit_past 0 0 k (omega arith) (omega arith)

value_here : (n : ℕ) (bytes : List ℕ) (x j : ℕ) → value_at bytes (column_bytes n) (x % 8) (x / 8) j ≡ packed_value n bytes (j + 1) x
unfolding packed_value
value_here n bytes x j = ap (λ (i : ℕ). value_at bytes (column_bytes n) (x % 8) (x / 8) i) (let e : j ≡ j + 1 - 1 = omega arith in e)

module _ (n m : ℕ) (bytes padded words : List ℕ) (sound : Columns n m bytes) (same : Padded bytes padded) (held : BytesWords padded (column_bytes n) words) where
  pub small_padded : (p : ℕ) → at padded p < 256
  small_padded p = omega (arith, same p, lt_of_lt_of_le (sound.used p) (pow_mono (used_most n)))

  row_from_words : (x : ℕ) → x < 2 ^ n → bits_gathered words (x / 8) (column_bytes n) (x % 8) ≡ unpacked_row n m bytes x
  unfolding unpacked_row
  row_from_words x l =
      let inside : x / 8 < column_bytes n = omega (arith, bytes_hold n sound.n_high) in
      row_held padded words small_padded (column_bytes n) held (x / 8) (x % 8) inside (omega arith)
      ∙ total_cong 32 _ _ (λ j i. ap (λ (v : ℕ). bit (x % 8 + 1) v * 2 ^ j) (same (j * column_bytes n + x / 8)))
      ∙ number_ends (value_at bytes (column_bytes n) (x % 8) (x / 8)) m 32 sound.m_high
      (λ j i h. none_past bytes m (column_bytes n) (x % 8) (x / 8) j sound.size i)
      ∙ total_cong m _ _ (λ j i. ap (λ (v : ℕ). v * 2 ^ j) (value_here n bytes x j))

  pub unpacked_from_words : list_below (2 ^ n) (λ x. bits_gathered words (x / 8) (column_bytes n) (x % 8)) ≡ unpacked n m bytes
  unfolding unpacked
  unpacked_from_words = list_below_cong (2 ^ n) _ _ row_from_words
