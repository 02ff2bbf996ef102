-- What the functions behind the constructions ask of one another, and nobody need believe.
use Rattle.std.specs.Prelude.{ℕ, ◌-◌, ◌^◌, ◌≤◌, ◌<◌, ◌≡◌, cond, List, ltb, length}
use Rattle.std.specs.Int.Bits.{bit_xor}
use Rattle.boolean.specs.Functions.{at}

-- the input at which the smaller function is asked: in the lower half x, and in the upper half x without its top bit, and bit k flipped
unfoldable pub source_of : (n k x : ℕ) → ℕ
source_of n k x = cond (ltb x (2 ^ n)) x (bit_xor (x - 2 ^ n) (2 ^ (k - 1)))

-- a width that can grow by one, and one of its bits
pub record Enlarges (n k : ℕ) : Type 0 where
  pub n_high : n ≤ 7
  pub k_low : 1 ≤ k
  pub k_high : k ≤ n

-- a column of that width, and a constant
pub record EnlargesColumn (n : ℕ) (table : List ℕ) (k a : ℕ) : Type 0 where
  pub widths : Enlarges n k
  pub size : length table ≡ 2 ^ n
  pub a_bit : a < 2

-- a box of that width, and a truth table
pub record EnlargesBox (n : ℕ) (rows table : List ℕ) (k : ℕ) : Type 0 where
  pub widths : Enlarges n k
  pub rows_size : length rows ≡ 2 ^ n
  pub table_size : length table ≡ 2 ^ n
  pub rows_below : (x : ℕ) → at rows x < 2 ^ n
  pub bits : (x : ℕ) → at table x < 2

-- half of an accepted even width, and two tables of it
pub record MakesBent (h : ℕ) (permutation table : List ℕ) : Type 0 where
  pub h_high : h ≤ 4
  pub permutation_size : length permutation ≡ 2 ^ h
  pub table_size : length table ≡ 2 ^ h
