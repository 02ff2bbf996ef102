-- How many bytes a column takes, and how many bits of a byte are used. Assumes nothing.
use mathlib.Core.Path.{◌≡◌, refl, ap, ◌∙◌}
use Prim.Native.Nat.{ℕ, zero, suc, ◌+◌, ◌*◌, ◌-◌, ◌/◌, ◌^◌, ◌<◌, ◌≤◌, max}
use native.Mathlib.Nat.{max-eq_right, min-eq_left, min-eq_right, min-le_left, le-max_left, max-le}
use native.Mathlib.Decide.{dec_lt}
use native.Mathlib.Omega.{arith}
use lib.Pow.{pow_pos, pow_mono, pow-add, shl-shr}
use Rattle.packing.specs.Packing.{column_bytes, used_bits}

-- one byte with n below 3, and from there on a power of two
pub bytes_one : (n : ℕ) → n < 3 → column_bytes n ≡ 1
unfolding column_bytes
bytes_one zero h = refl
bytes_one (suc zero) h = refl
bytes_one (suc (suc zero)) h = refl
bytes_one (suc (suc (suc n))) h = absurd (omega arith)

pub bytes_eighth : (n : ℕ) → 3 ≤ n → 2 ^ n / 8 ≡ 2 ^ (n - 3)
bytes_eighth n h =
    let apart : n ≡ n - 3 + 3 = omega arith in
    ap (λ (z : ℕ). 2 ^ z / 8) apart ∙ ap (λ (z : ℕ). z / 8) (pow-add 2 (n - 3) 3) ∙ shl-shr (2 ^ (n - 3)) 3

pub bytes_power : (n : ℕ) → 3 ≤ n → column_bytes n ≡ 2 ^ (n - 3)
unfolding column_bytes
bytes_power n h = ap (λ (z : ℕ). max 1 z) (bytes_eighth n h) ∙ max-eq_right (pow_pos (n - 3))

pub bytes_low : (n : ℕ) → 1 ≤ column_bytes n
unfolding column_bytes
bytes_low n = le-max_left 1 (2 ^ n / 8)

pub bytes_high : (n : ℕ) → n ≤ 8 → column_bytes n ≤ 32
unfolding column_bytes
bytes_high n h = let few : 2 ^ n ≤ 256 = pow_mono {i = n} {j = 8} h in max-le (omega arith) (omega arith)

-- which is an eighth of the inputs, from 3 on
pub bytes_eight : (n : ℕ) → 3 ≤ n → 8 * column_bytes n ≡ 2 ^ n
bytes_eight n h =
    let apart : n ≡ n - 3 + 3 = omega arith in
    let whole : 2 ^ n ≡ 2 ^ (n - 3) * 8 = ap (λ (z : ℕ). 2 ^ z) apart ∙ pow-add 2 (n - 3) 3 in
    omega (arith, bytes_power n h, whole)

-- eight values to a byte hold every input
pub bytes_hold : (n : ℕ) → n ≤ 8 → 2 ^ n ≤ 8 * column_bytes n
bytes_hold n h = pick (dec_lt n 3)
  where
    pick : Dec (n < 3) → 2 ^ n ≤ 8 * column_bytes n
    pick (yes l) = let few : 2 ^ n ≤ 4 = pow_mono {i = n} {j = 2} (omega arith) in omega (arith, bytes_one n l)
    pick (no l) = omega (arith, bytes_eight n (omega arith))

-- the bits of a byte that are used
few_inputs : (n : ℕ) → n < 3 → 2 ^ n ≤ 4
few_inputs n h = pow_mono {i = n} {j = 2} (omega arith)

pub used_few : (n : ℕ) → n < 3 → (used_bits n ≡ 2 ^ n) × (2 ^ n ≤ 4)
unfolding used_bits
used_few n h = (min-eq_right (let l : 2 ^ n ≤ 8 = omega (arith, few_inputs n h) in l), few_inputs n h)

pub used_all : (n : ℕ) → 3 ≤ n → used_bits n ≡ 8
unfolding used_bits
used_all n h = min-eq_left (pow_mono {i = 3} {j = n} h)

pub used_most : (n : ℕ) → used_bits n ≤ 8
unfolding used_bits
used_most n = min-le_left 8 (2 ^ n)
