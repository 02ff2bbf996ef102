-- Document 02 §8 beside the contracts: columns and their bytes, and both ways back. Assumes nothing.
use Rattle.std.specs.Prelude.{Result, Ok, ⊤}
use Rattle.refusals.specs.declared.Refusal.{Refusal}
use mathlib.Core.Path.{◌≡◌, refl, sym, ap, ap₂, ◌∙◌, subst}
use mathlib.Core.List.{List}
use Prim.Native.Nat.{ℕ, ◌+◌, ◌*◌, ◌-◌, ◌/◌, ◌%◌, ◌^◌, ◌<◌, ◌≤◌}
use native.Mathlib.Nat.{mod-lt, le_trans, le_of_eq, lt_of_lt_of_le, div-lt_iff_lt-mul, div-add-mod'}
use native.Mathlib.Omega.{arith}
use native.Mathlib.Decide.{dec_lt}
use lib.ListN.{length, get_or-eq_default}
use lib.Pow.{pow_pos, pow_mono}
use Rattle.boolean.specs.Bits.{bit}
use Rattle.boolean.specs.Functions.{at, column}
use Rattle.boolean.proofs.Counts.{total_cong}
use Rattle.boolean.proofs.Columns.{column_lt}
use Rattle.boolean.proofs.Lists.{get_or_list_below, list_is, list_below_cong}
use Rattle.refusals.specs.Table.{Box}
use Rattle.refusals.proofs.Outcomes.{nothing_said, wrote_when_accepted, wrote_when_told}
use Rattle.packing.specs.Packing.{column_bytes, packed_byte, packed, packed_value, unpacked_row, unpacked, used_bits, PackCalled, UnpackCalled}
use Rattle.packing.specs.Work.{Columns}
use Rattle.packing.proofs.Binary.{bit_past, number_lt, number_back, number_ends}
use Rattle.packing.proofs.Widths.{bytes_low, used_most}
use Rattle.packing.proofs.Accepted.{pack_box, pack_accepted, unpack_columns, unpack_accepted}
use Rattle.packing.proofs.Returns as returns
use Rattle.packing.proofs.Returns.{past_inputs, past_used, length_packed, length_unpacked, unpacked_at, row_lt, column_past}

-- Column j of an accepted box is exactly the bits of its bytes in the packed form.
pub column_packed : (n m : ℕ) (rows : List ℕ) → Box n m rows → (j x : ℕ) → 1 ≤ j → j ≤ m → x < 2 ^ n → packed_value n (packed n m rows) j x ≡ column rows j x
column_packed n m rows b j x low high l = returns.column_packed n m rows j x b.n_high low high l

-- And column j of the rows that packed columns give is exactly the bits of its bytes.
pub column_unpacked : (n m : ℕ) (bytes : List ℕ) (j x : ℕ) → 1 ≤ j → j ≤ m → x < 2 ^ n → column (unpacked n m bytes) j x ≡ packed_value n bytes j x
column_unpacked n m bytes j x low high l = returns.column_unpacked n m bytes j x low high l

column_bit : (rows : List ℕ) (j x : ℕ) → column rows j x ≡ bit j (at rows x)
unfolding column
column_bit rows j x = refl

-- Rows come back the same.
module _ (n m : ℕ) (rows : List ℕ) (b : Box n m rows) where
  row_back : (x : ℕ) → x < 2 ^ n → unpacked_row n m (packed n m rows) x ≡ at rows x
  unfolding unpacked_row
  row_back x l =
      total_cong m _ _ (λ j i. ap (λ (v : ℕ). v * 2 ^ j) (column_packed n m rows b (j + 1) x (omega arith) (omega arith) l ∙ column_bit rows (j + 1) x))
      ∙ number_back (at rows x) m (b.below x)

  pub unpacked_packed : unpacked n m (packed n m rows) ≡ rows
  unfolding unpacked
  unpacked_packed = list_below_cong (2 ^ n) _ _ row_back ∙ sym (list_is 0 (2 ^ n) (at rows) rows b.size (λ x l. refl))

  -- The packed form of an accepted box is accepted: no bit is set that is not used.
  byte_used : (j y : ℕ) → packed_byte rows j y < 2 ^ used_bits n
  unfolding packed_byte
  byte_used j y =
      subst (λ (v : ℕ). v < 2 ^ used_bits n)
      (sym (number_ends (λ t. column rows j (8 * y + t)) (used_bits n) 8 (used_most n)
      (λ t u l. column_past rows j (8 * y + t) (le_trans (le_of_eq b.size) (past_inputs n y t u l)))))
      (number_lt (λ t. column rows j (8 * y + t)) (λ t. column_lt rows j (8 * y + t)) (used_bits n))

  at_used : (p : ℕ) → Dec (p < m * column_bytes n) → at (packed n m rows) p < 2 ^ used_bits n
  unfolding packed
  at_used p (yes l) = subst (λ (v : ℕ). v < 2 ^ used_bits n) (sym (get_or_list_below (m * column_bytes n) _ p 0 l)) (byte_used (p / column_bytes n + 1) (p % column_bytes n))
  at_used p (no l) =
      let past : length (packed n m rows) ≤ p = omega (arith, length_packed n m rows) in
      subst (λ (v : ℕ). v < 2 ^ used_bits n) (sym (get_or-eq_default (packed n m rows) 0 past)) (pow_pos (used_bits n))

  pub packed_columns : Columns n m (packed n m rows)
  packed_columns = record {
    n_low = b.n_low;
    n_high = b.n_high;
    m_low = b.m_low;
    m_high = b.m_high;
    size = length_packed n m rows;
    used = λ p. at_used p (dec_lt p (m * column_bytes n));
  }

-- Packed bytes that are accepted come back the same.
module _ (n m : ℕ) (bytes : List ℕ) (c : Columns n m bytes) where
  -- the truth value at bit t of byte p, where it stands for an input, and where it does not
  value_back : (p t : ℕ) → p < m * column_bytes n → t < 8 → Dec (8 * (p % column_bytes n) + t < 2 ^ n)
      → column (unpacked n m bytes) (p / column_bytes n + 1) (8 * (p % column_bytes n) + t) ≡ bit (t + 1) (at bytes p)
  unfolding packed_value
  value_back p t l i (yes h) =
      let size : ℕ = column_bytes n in
      let x : ℕ = 8 * (p % size) + t in
      let j_high : p / size < m = (div-lt_iff_lt-mul (bytes_low n)).1 l in
      let place : (p / size + 1 - 1) * size + x / 8 ≡ p =
      ap₂ (λ (a k : ℕ). a * size + k) (let e : p / size + 1 - 1 ≡ p / size = omega arith in e) (let e : x / 8 ≡ p % size = omega arith in e) ∙ div-add-mod' p size in
      column_unpacked n m bytes (p / size + 1) x (omega arith) (omega arith) h
      ∙ ap₂ (λ (a k : ℕ). bit (a + 1) (at bytes k)) (let e : x % 8 ≡ t = omega arith in e) place
  value_back p t l i (no h) =
      let y_lt : p % column_bytes n < column_bytes n = mod-lt p (bytes_low n) in
      let past : length (unpacked n m bytes) ≤ 8 * (p % column_bytes n) + t = omega (arith, length_unpacked n m bytes) in
      column_past (unpacked n m bytes) (p / column_bytes n + 1) (8 * (p % column_bytes n) + t) past
      ∙ sym (bit_past (at bytes p) (used_bits n) t (c.used p) (past_used n (p % column_bytes n) t y_lt i (omega arith)))

  byte_back : (p : ℕ) → p < m * column_bytes n → packed_byte (unpacked n m bytes) (p / column_bytes n + 1) (p % column_bytes n) ≡ at bytes p
  unfolding packed_byte
  byte_back p l =
      total_cong 8 _ _ (λ t i. ap (λ (v : ℕ). v * 2 ^ t) (value_back p t l i (dec_lt (8 * (p % column_bytes n) + t) (2 ^ n))))
      ∙ number_back (at bytes p) 8 (lt_of_lt_of_le (c.used p) (pow_mono (used_most n)))

  pub packed_unpacked : packed n m (unpacked n m bytes) ≡ bytes
  unfolding packed
  packed_unpacked = list_below_cong (m * column_bytes n) _ _ byte_back ∙ sym (list_is 0 (m * column_bytes n) (at bytes) bytes c.size (λ p l. refl))

  -- The rows of accepted packed bytes are accepted.
  row_below : (x : ℕ) → Dec (x < 2 ^ n) → at (unpacked n m bytes) x < 2 ^ m
  row_below x (yes l) = subst (λ (v : ℕ). v < 2 ^ m) (sym (unpacked_at n m bytes x l)) (row_lt n m bytes x)
  row_below x (no l) =
      let past : length (unpacked n m bytes) ≤ x = omega (arith, length_unpacked n m bytes) in
      subst (λ (v : ℕ). v < 2 ^ m) (sym (get_or-eq_default (unpacked n m bytes) 0 past)) (pow_pos m)

  pub unpacked_box : Box n m (unpacked n m bytes)
  unpacked_box = record {
    n_low = c.n_low;
    n_high = c.n_high;
    m_low = c.m_low;
    m_high = c.m_high;
    size = length_unpacked n m bytes;
    small = le_trans (le_of_eq (length_unpacked n m bytes)) (pow_mono c.n_high);
    below = λ x. row_below x (dec_lt x (2 ^ n));
  }

-- The calls, by their contracts. Rows come back the same: where a call of pack was accepted, a call of unpack with what it left, and any array as long as
-- the rows, is accepted and leaves the rows.
pub rows_come_back : (n m : ℕ) (rows lent left lent' left' : List ℕ) (answer answer' : Result ⊤ Refusal) → PackCalled n m rows lent answer left → answer ≡ (Ok tt)
    → UnpackCalled n m left lent' answer' left' → length lent' ≡ length rows → (answer' ≡ (Ok tt)) × (left' ≡ rows)
rows_come_back n m rows lent left lent' left' answer answer' p done u long =
    let t = wrote_when_told (subst (λ (z : Result ⊤ Refusal). PackCalled n m rows lent z left) done p) in
    let b : Box n m rows = pack_box n m rows (length lent) t.0 in
    let columns : Columns n m left = subst (λ (l : List ℕ). Columns n m l) (sym t.2) (packed_columns n m rows b) in
    let back = wrote_when_accepted u (unpack_accepted n m left (length lent') columns (long ∙ b.size)) in
    (nothing_said answer' back.0, back.1 ∙ ap (unpacked n m) t.2 ∙ unpacked_packed n m rows b)

-- Packed bytes that are accepted come back the same: where a call of unpack was accepted, a call of pack with the rows it left, and any array as long as
-- the packed bytes, is accepted and leaves these bytes.
pub bytes_come_back : (n m : ℕ) (bytes lent left lent' left' : List ℕ) (answer answer' : Result ⊤ Refusal) → UnpackCalled n m bytes lent answer left → answer ≡ (Ok tt)
    → PackCalled n m left lent' answer' left' → length lent' ≡ length bytes → (answer' ≡ (Ok tt)) × (left' ≡ bytes)
bytes_come_back n m bytes lent left lent' left' answer answer' u done p long =
    let t = wrote_when_told (subst (λ (z : Result ⊤ Refusal). UnpackCalled n m bytes lent z left) done u) in
    let c : Columns n m bytes = unpack_columns n m bytes (length lent) t.0 in
    let box : Box n m left = subst (λ (l : List ℕ). Box n m l) (sym t.2) (unpacked_box n m bytes c) in
    let back = wrote_when_accepted p (pack_accepted n m left (length lent') box (long ∙ c.size)) in
    (nothing_said answer' back.0, back.1 ∙ ap (packed n m) t.2 ∙ packed_unpacked n m bytes c)
