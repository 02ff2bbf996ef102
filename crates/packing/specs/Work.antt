-- What the functions behind the calls ask and leave. They work on four columns at a time: a word has a byte for each.
use Rattle.std.specs.Prelude.{ℕ, ◌+◌, ◌*◌, ◌/◌, ◌%◌, ◌^◌, ◌≤◌, ◌<◌, ◌≡◌, List, length}
use Rattle.boolean.specs.Bits.{bit}
use Rattle.boolean.specs.Sums.{total_below}
use Rattle.boolean.specs.Functions.{at}
use Rattle.packing.specs.Packing.{column_bytes, used_bits}

-- the word of the columns i + 1, i + 9, i + 17 and i + 25, a byte or less of each
unfoldable pub word_of : (b : ℕ → ℕ) (i : ℕ) → ℕ
word_of b i = b (i + 1) + 256 * b (i + 9) + 65536 * b (i + 17) + 16777216 * b (i + 25)

-- bit j of eight numbers, as a byte: the first is the lowest
unfoldable pub byte_of : (f : ℕ → ℕ) (j : ℕ) → ℕ
unfolding total_below bit
byte_of f j = total_below 8 (λ t. bit j (f t) * 2 ^ t)

-- eight entries from a start on, each `step` places after the one before
abbrev pub eight : (values : List ℕ) (start step t : ℕ) → ℕ
eight values start step t = at values (start + t * step)

-- their bits i + 1, i + 9, i + 17 and i + 25, a byte of each
unfoldable pub bits_gathered : (values : List ℕ) (start step i : ℕ) → ℕ
unfolding word_of byte_of
bits_gathered values start step i = word_of (byte_of (eight values start step)) i

-- accepted packed columns
pub record Columns (n m : ℕ) (bytes : List ℕ) : Type 0 where
  pub n_low : 1 ≤ n
  pub n_high : n ≤ 8
  pub m_low : 1 ≤ m
  pub m_high : m ≤ 32
  pub size : length bytes ≡ m * column_bytes n
  pub used : (p : ℕ) → at bytes p < 2 ^ used_bits n

-- a list of this length, all 0
pub record Cleared (room : ℕ) (list : List ℕ) : Type 0 where
  pub long : length list ≡ room
  pub none : (x : ℕ) → at list x ≡ 0

-- the same entries, and 0 past the last of them
abbrev pub Padded : (values padded : List ℕ) → Type 0
Padded values padded = (x : ℕ) → at padded x ≡ at values x

-- the words of packed columns: word i × size + y has byte y of the columns i + 1, i + 9, i + 17 and i + 25
abbrev pub GatheredWords : (rows : List ℕ) (size : ℕ) (words : List ℕ) → Type 0
GatheredWords rows size words = (q : ℕ) → q < 8 * size → at words q ≡ bits_gathered rows (8 * (q % size)) 1 (q / size)

-- byte p of packed columns, from their words: it is byte p % size of the column after p / size others
unfoldable pub word_byte : (words : List ℕ) (size p : ℕ) → ℕ
word_byte words size p = at words (p / size % 8 * size + p % size) / 256 ^ (p / size / 8) % 256

-- the word of four bytes, each eight columns after the one before
unfoldable pub four_bytes_at : (bytes : List ℕ) (size q : ℕ) → ℕ
four_bytes_at bytes size q =
    at bytes q + 256 * at bytes (q + 8 * size) + 65536 * at bytes (q + 16 * size) + 16777216 * at bytes (q + 24 * size)

-- the words of packed bytes
abbrev pub BytesWords : (bytes : List ℕ) (size : ℕ) (words : List ℕ) → Type 0
BytesWords bytes size words = (q : ℕ) → q < 8 * size → at words q ≡ four_bytes_at bytes size q
