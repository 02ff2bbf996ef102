-- What the functions behind the spectrum calls ask and leave. The sweeps of the crates above ask them too, and meet the same conditions.
use Rattle.std.specs.Prelude.{ℕ, ◌+◌, ◌-◌, ◌*◌, ◌^◌, ◌≤◌, ◌<◌, ◌≡◌, List, length, set, get_or, ℤ, pos, ◌+ℤ◌, ◌-ℤ◌, nat_abs}
use Rattle.boolean.specs.Functions.{at, value_at, approximation}
use Rattle.boolean.specs.Sums.{largest_below}
use Rattle.refusals.specs.Table.{Table}

-- four truth values from one place on, each in a byte of its own
unfoldable pub four_values : (table : List ℕ) (place : ℕ) → ℕ
four_values table place = at table place + 256 * at table (place + 1) + 65536 * at table (place + 2) + 16777216 * at table (place + 3)

-- the array, with the four entries of the fixed table from one place on written to it from the other place on
unfoldable pub with_four : (out : List ℤ) (to : ℕ) (fixed : List ℤ) (from : ℕ) → List ℤ
with_four out to fixed from =
    set (set (set (set out to (value_at fixed from)) (to + 1) (value_at fixed (from + 1))) (to + 2) (value_at fixed (from + 2)))
    (to + 3) (value_at fixed (from + 3))

-- an accepted truth table, and an array that is as long
pub record Ready {A : Type 0} (n : ℕ) (table : List ℕ) (out : List A) : Type 0 where
  pub read : Table n table
  pub room : length out ≡ 2 ^ n

-- numbers that stand for the spectrum of a function: past the end of a list there is the number zero
pub record SpectrumOf {A : Type 0} (whole : A → ℤ) (zero : A) (n : ℕ) (f : ℕ → ℕ) (values : List A) : Type 0 where
  pub long : length values ≡ 2 ^ n
  pub entries : (w : ℕ) → w < 2 ^ n → whole (get_or values w zero) ≡ approximation n f w

-- two halves of h numbers, none above a limit: twice the limit fits a word, and so do the sum and the difference of two. What a number
-- stands for is an integer, and past the end there is the number zero.
pub record HalvesOf {A : Type 0} (whole : A → ℤ) (zero : A) (limit h : ℕ) (values : List A) : Type 0 where
  pub size : length values ≡ h + h
  pub small : (k : ℕ) → nat_abs (whole (get_or values k zero)) ≤ limit

-- the sums of the two halves in the lower half, and their differences in the upper half
pub record CrossedOf {A : Type 0} (whole : A → ℤ) (zero : A) (h : ℕ) (old new : List A) : Type 0 where
  pub sums : (k : ℕ) → k < h → whole (get_or new k zero) ≡ whole (get_or old k zero) +ℤ whole (get_or old (h + k) zero)
  pub differences : (k : ℕ) → k < h → whole (get_or new (h + k) zero) ≡ whole (get_or old k zero) -ℤ whole (get_or old (h + k) zero)

-- both, of integers
abbrev pub Halves : (limit h : ℕ) (values : List ℤ) → Type 0
Halves = HalvesOf (λ v. v) (pos 0)

abbrev pub Crossed : (h : ℕ) (old new : List ℤ) → Type 0
Crossed = CrossedOf (λ v. v) (pos 0)

-- the largest sum of the magnitudes of two numbers at the same place of the two halves
abbrev pub largest_sum : (h : ℕ) (values : List ℤ) → ℕ
largest_sum h values = largest_below h (λ k. nat_abs (value_at values k) + nat_abs (value_at values (h + k)))

-- 2^n numbers, up to 2^8 of them, all within a bound so small that the transform's sums over all of them fit
pub record Summable (n : ℕ) (values : List ℤ) : Type 0 where
  pub few : n ≤ 8
  pub size : length values ≡ 2 ^ n
  pub bound : ℕ
  pub small : (k : ℕ) → nat_abs (value_at values k) ≤ bound
  pub total : 2 ^ n * bound ≤ 2 ^ 29

-- what the inverse works on: 2^n values between −2^(n−1) and 2^(n−1), and two arrays as long
pub record Invertible (n : ℕ) (values work : List ℤ) (table : List ℕ) : Type 0 where
  pub low : 1 ≤ n
  pub few : n ≤ 8
  pub size : length values ≡ 2 ^ n
  pub work_size : length work ≡ 2 ^ n
  pub room : length table ≡ 2 ^ n
  pub small : (k : ℕ) → nat_abs (value_at values k) ≤ 2 ^ (n - 1)
