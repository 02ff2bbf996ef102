-- Where the bytes and words of columns stand. Assumes nothing.
use mathlib.Core.Path.{◌≡◌, refl, sym, ap, ap₂, ◌∙◌}
use Prim.Native.Nat.{ℕ, zero, suc, ◌+◌, ◌*◌, ◌/◌, ◌%◌, ◌^◌, ◌<◌, ◌≤◌}
use native.Mathlib.Nat.{add-mul, one-mul, mul-le-mul_right, pow-suc}
use native.Mathlib.Omega.{arith}
use lib.Arith.{digits_div, digits_mod}
use lib.Pow.{pow-add}
use mathlib.Core.List.{List}
use Rattle.boolean.specs.Functions.{at}
use Rattle.packing.specs.Work.{word_byte}

-- byte y of the column after j others, and the words of a group
module _ (j y size : ℕ) (l : y < size) where
  pub byte_column : (j * size + y) / size ≡ j
  byte_column = digits_div j l

  pub byte_place : (j * size + y) % size ≡ y
  byte_place = digits_mod j l

-- one column more
pub next_column : (j size : ℕ) → (j + 1) * size ≡ j * size + size
next_column j size = add-mul j 1 size ∙ ap (λ (z : ℕ). j * size + z) (one-mul size)

pub columns_before : (j m size : ℕ) → j ≤ m → j * size ≤ m * size
columns_before j m size h = mul-le-mul_right size h

pub column_inside : (j m size : ℕ) → j < m → j * size + size ≤ m * size
column_inside j m size h = omega (arith, next_column j size, columns_before (j + 1) m size (omega arith))

-- eight bits to a byte
pub byte_power : (k : ℕ) → 2 ^ (8 * k) ≡ 256 ^ k
byte_power zero = refl
byte_power (suc k) =
    let more : 8 * suc k ≡ 8 * k + 8 = omega arith in
    ap (λ (z : ℕ). 2 ^ z) more ∙ pow-add 2 (8 * k) 8 ∙ ap (λ (z : ℕ). z * 256) (byte_power k) ∙ sym (pow-suc 256 k)

-- the words of a column lie among those of the first eight
pub word_near : (j size : ℕ) → j % 8 * size ≤ 7 * size
word_near j size = mul-le-mul_right size (let few : j % 8 ≤ 7 = omega arith in few)

-- a byte of the column after j others, from the word that it stands in
module _ (words : List ℕ) (j y size : ℕ) (l : y < size) where
  pub byte_of_word : at words (j % 8 * size + y) / 256 ^ (j / 8) % 256 ≡ word_byte words size (j * size + y)
  unfolding word_byte
  byte_of_word =
      ap₂ (λ (a b : ℕ). at words (a % 8 * size + b) / 256 ^ (a / 8) % 256) (sym (byte_column j y size l)) (sym (byte_place j y size l))
