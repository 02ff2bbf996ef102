-- The bytes of a box's file: how many there are, which row each belongs to, and that the rows and the bytes say the same. Assumes nothing.
use mathlib.Core.Path.{◌≡◌, refl, sym, ap, ◌∙◌, subst}
use mathlib.Core.List.{List, [], ◌∷◌, ◌++◌, append-nil}
use Prim.Native.Nat.{ℕ, zero, suc, ◌+◌, ◌*◌, ◌/◌, ◌%◌, ◌^◌, ◌≤◌, ◌<◌}
use native.Mathlib.Nat.{le_of_suc-le-suc, not-suc-le-zero, lt_of_lt_of_le}
use native.Mathlib.Numerals.{add-one}
use native.Mathlib.Omega.{arith}
use lib.ListN.{length, take, get_or-append, drop_of_length-le}
use lib.Pow.{pow_mono}
use lib.Seq.{get_or-append-add, ext_get_or, take-suc, sets, sets-eq}
use Rattle.boolean.specs.Sums.{each}
use Rattle.boolean.specs.Functions.{at, Below}
use Rattle.boolean.proofs.Lists.{list_is, list_below_cong, each_append}
use Rattle.refusals.specs.Table.{Box}
use Rattle.boxfile.specs.File.{row_at, file_rows, row_bytes, file_of}
use Rattle.boxfile.proofs.FileRows.{length_rows, row_of_rows}

pub length_bytes : (rows : List ℕ) → length (each rows row_bytes) ≡ 4 * length rows
unfolding each row_bytes
length_bytes [] = refl
length_bytes (row ∷ rows) = omega (arith, length_bytes rows)

pub length_file : (n m : ℕ) (rows : List ℕ) → length (file_of n m rows) ≡ 2 + 4 * length rows
unfolding file_of
length_file n m rows = omega (arith, length_bytes rows)

-- the bytes of one row more
pub bytes_next : (rows : List ℕ) (x : ℕ) → x < length rows → each (take (x + 1) rows) row_bytes ≡ each (take x rows) row_bytes ++ row_bytes (at rows x)
unfolding each
bytes_next rows x h =
    let one : take (x + 1) rows ≡ take x rows ++ (at rows x ∷ []) = rw (add-one, take-suc rows x 0) in
    ap (λ (l : List ℕ). each l row_bytes) one ∙ each_append (take x rows) (at rows x ∷ []) row_bytes
    ∙ ap (λ (l : List ℕ). each (take x rows) row_bytes ++ l) (append-nil (row_bytes (at rows x)))

-- a number below 2^32 is made of its four bytes
made_of : (a b c d row two three four : ℕ) → 256 * two + a ≡ row → 256 * three + b ≡ two → 256 * four + c ≡ three → d ≡ four
    → a + 256 * b + 65536 * c + 16777216 * d ≡ row
made_of a b c d row two three four e f g h = omega arith

four_bytes : (row : ℕ) → row < 2 ^ 32 → row % 256 + 256 * (row / 256 % 256) + 65536 * (row / 65536 % 256) + 16777216 * (row / 16777216 % 256) ≡ row
four_bytes row small =
    let second : row / 65536 ≡ row / 256 / 256 = omega arith in
    let third : row / 16777216 ≡ row / 65536 / 256 = omega arith in
    let top : row / 16777216 < 256 = omega arith in
    made_of _ _ _ _ row (row / 256) (row / 65536) (row / 16777216) (omega arith) (omega arith) (omega arith) (omega arith)

-- byte j of row x among the bytes of all rows, and in the file
byte_at : (rows : List ℕ) (x j : ℕ) → x < length rows → j < 4 → at (each rows row_bytes) (4 * x + j) ≡ at (row_bytes (at rows x)) j
unfolding each row_bytes
byte_at [] x j h l = absurd (not-suc-le-zero h)
byte_at (row ∷ rows) zero j h l =
    let start : 4 * 0 + j ≡ j = omega arith in
    ap (at (each (row ∷ rows) row_bytes)) start ∙ get_or-append (row_bytes row) (each rows row_bytes) 0 j l
byte_at (row ∷ rows) (suc x) j h l =
    let past : 4 * suc x + j ≡ 4 + (4 * x + j) = omega arith in
    ap (at (each (row ∷ rows) row_bytes)) past ∙ get_or-append-add (row_bytes row) (each rows row_bytes) (4 * x + j) 0
    ∙ byte_at rows x j (le_of_suc-le-suc h) l

module _ (n m : ℕ) (rows : List ℕ) where
  byte_of_file : (x j : ℕ) → x < length rows → j < 4 → at (file_of n m rows) (4 * x + (2 + j)) ≡ at (row_bytes (at rows x)) j
  unfolding file_of
  byte_of_file x j h l =
      let past : 4 * x + (2 + j) ≡ suc (suc (4 * x + j)) = omega arith in
      ap (at (file_of n m rows)) past ∙ byte_at rows x j h l

  -- so the file's rows are the rows
  row_of_file : (x : ℕ) → x < length rows → at rows x < 2 ^ 32 → row_at (file_of n m rows) x ≡ at rows x
  unfolding row_at row_bytes
  row_of_file x h small =
      omega (
        arith,
        byte_of_file x 0 h (omega arith),
        byte_of_file x 1 h (omega arith),
        byte_of_file x 2 h (omega arith),
        byte_of_file x 3 h (omega arith),
        four_bytes (at rows x) small,
      )

  pub rows_of_file : Box n m rows → file_rows (file_of n m rows) n ≡ rows
  unfolding file_rows
  rows_of_file b =
      list_below_cong (2 ^ n) _ _ (λ x l. row_of_file x (subst (λ (k : ℕ). x < k) (sym b.size) l) (lt_of_lt_of_le (b.below x) (pow_mono b.m_high)))
      ∙ sym (list_is 0 (2 ^ n) (at rows) rows b.size (λ x l. refl))

-- and the bytes of the rows of a file are the file
module _ (file : List ℕ) (n : ℕ) (size : length file ≡ 2 + 4 * 2 ^ n) (bytes : Below 256 file) where
  row_back : (x j : ℕ) → x < 2 ^ n → j < 4 → at (row_bytes (row_at file x)) j ≡ at file (4 * x + (2 + j))
  unfolding row_at row_bytes
  row_back x j h l = by j l (bytes (4 * x + 2) (omega arith)) (bytes (4 * x + 3) (omega arith)) (bytes (4 * x + 4) (omega arith)) (bytes (4 * x + 5) (omega arith))
    where
      by : (j : ℕ) → j < 4 → at file (4 * x + 2) < 256 → at file (4 * x + 3) < 256 → at file (4 * x + 4) < 256 → at file (4 * x + 5) < 256
          → at (row_bytes (row_at file x)) j ≡ at file (4 * x + (2 + j))
      by zero l a b c d = omega arith
      by (suc zero) l a b c d = omega arith
      by (suc (suc zero)) l a b c d = omega arith
      by (suc (suc (suc zero))) l a b c d = omega arith
      by (suc (suc (suc (suc j)))) l a b c d = absurd (omega arith)

  byte_back : (k : ℕ) → k < 4 * 2 ^ n → at (each (file_rows file n) row_bytes) k ≡ at file (2 + k)
  byte_back k l =
      let x = k / 4 in
      let j = k % 4 in
      let is : 4 * x + j ≡ k = omega arith in
      let x_lt : x < 2 ^ n = omega arith in
      let x_in : x < length (file_rows file n) = subst (λ (k : ℕ). x < k) (sym (length_rows file n)) x_lt in
      let j_lt : j < 4 = omega arith in
      let place : 4 * x + (2 + j) ≡ 2 + k = omega arith in
      ap (at (each (file_rows file n) row_bytes)) (sym is) ∙ byte_at (file_rows file n) x j x_in j_lt
      ∙ ap (λ (row : ℕ). at (row_bytes row) j) (row_of_rows file n x x_lt) ∙ row_back x j x_lt j_lt ∙ ap (at file) place

  pub file_of_rows : file_of (at file 0) (at file 1) (file_rows file n) ≡ file
  unfolding file_of
  file_of_rows = ext_get_or 0 _ file long each_byte
    where
      long : length (file_of (at file 0) (at file 1) (file_rows file n)) ≡ length file
      long = length_file (at file 0) (at file 1) (file_rows file n) ∙ ap (λ (k : ℕ). 2 + 4 * k) (length_rows file n) ∙ sym size

      each_byte : (k : ℕ) → k < length (file_of (at file 0) (at file 1) (file_rows file n)) → at (file_of (at file 0) (at file 1) (file_rows file n)) k ≡ at file k
      each_byte zero l = refl
      each_byte (suc zero) l = refl
      each_byte (suc (suc k)) l = let next : 2 + k ≡ suc (suc k) = omega arith in byte_back k (omega (arith, long)) ∙ ap (at file) next

-- a file that is written over an array as long is what the array then holds
pub written_over : (old file : List ℕ) → length old ≡ length file → sets old 0 file ≡ file
written_over old file long =
    let past : length old ≤ 0 + length file = omega arith in
    sets-eq file old 0 (omega arith) ∙ ap (λ (l : List ℕ). file ++ l) (drop_of_length-le old past) ∙ append-nil file
