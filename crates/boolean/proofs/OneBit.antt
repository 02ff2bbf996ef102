-- The masks with a single 1: the powers of two.
use mathlib.Core.Path.{◌≡◌, refl, sym, ap, ◌∙◌}
use Prim.Native.Nat.{ℕ, zero, suc, ◌+◌, ◌*◌, ◌/◌, ◌%◌, ◌^◌, ◌<◌, ◌≤◌}
use native.Mathlib.Nat.{add-zero, one-mul, mod-lt, zero-lt-suc, two-pow-succ}
use native.Mathlib.Omega.{arith}
use lib.Arith.{bin_ind}
use lib.Pow.{pow_pos}
use lib.Count.{ones, ones_in, ones_step, ones_cat}
use Rattle.boolean.proofs.Dots.{bit_cases}

pub ones_one : ones 1 ≡ 1
unfolding ones ones_in
ones_one = refl

pub ones_none : ones 0 ≡ 0
unfolding ones ones_in
ones_none = refl

pub ones_power : (p : ℕ) → ones (2 ^ p) ≡ 1
ones_power p =
    ap ones (sym (add-zero (1 * 2 ^ p) ∙ one-mul (2 ^ p))) ∙ ones_cat p 1 0 (pow_pos p)
    ∙ ap (λ (k : ℕ). ones 1 + k) ones_none ∙ ap (λ (k : ℕ). k + 0) ones_one

-- what is not 0 has a 1
pub ones_pos : (n : ℕ) → 0 < n → 0 < ones n
ones_pos = bin_ind (λ n. 0 < n → 0 < ones n) (λ h. absurd (omega arith))
    (λ n ih h. bit_cases (λ b. n % 2 ≡ b → 0 < ones n)
    (λ e. omega (arith, ones_step n, ih (omega arith)))
    (λ e. omega (arith, ones_step n))
    (n % 2) (mod-lt n (zero-lt-suc 1)) refl)

-- a number with no 1 is 0
no_ones : (k v : ℕ) → v < 2 ^ k → ones v ≡ 0 → v ≡ 0
no_ones zero v h e = omega arith
no_ones (suc k) v h e =
    let step : ones v ≡ v % 2 + ones (v / 2) = ones_step v in
    let rest = no_ones k (v / 2) (omega (arith, two-pow-succ k)) (omega arith) in
    omega arith

-- one with a single 1 is the power of two at its place
pub power_of_ones : (k v : ℕ) → 1 ≤ v → v < 2 ^ k → ones v ≤ 1 → (p : ℕ) × (p < k) × (v ≡ 2 ^ p)
power_of_ones zero v l h e = absurd (omega arith)
power_of_ones (suc k) v l h e =
    bit_cases (λ b. v % 2 ≡ b → (p : ℕ) × (p < suc k) × (v ≡ 2 ^ p))
    (λ q. let t = power_of_ones k (v / 2) (omega arith) half (omega (arith, step)) in (suc t.0, omega (arith, t.1), omega (arith, t.2, two-pow-succ t.0)))
    (λ q. let z = no_ones k (v / 2) half (omega (arith, step)) in (0, omega arith, omega arith))
    (v % 2) (mod-lt v (zero-lt-suc 1)) refl
  where
    half : v / 2 < 2 ^ k
    half = omega (arith, two-pow-succ k)

    step : ones v ≡ v % 2 + ones (v / 2)
    step = ones_step v
