-- The masks with two ones: the XORs of two powers of two.
use mathlib.Core.Path.{◌≡◌, refl, sym, ap, ap₂, ◌∙◌}
use mathlib.Core.Logic.{◌⊎◌, inl, inr}
use Prim.Native.Nat.{ℕ, zero, suc, ◌+◌, ◌*◌, ◌/◌, ◌%◌, ◌^◌, ◌<◌, ◌≤◌}
use native.Mathlib.Nat.{one-mul, mod-lt, zero-lt-suc, two-pow-succ}
use native.Mathlib.Decide.{dec_lt}
use native.Mathlib.Omega.{arith}
use lib.Bits.{bit_xor, xor_comm, xor_shifted}
use lib.Pow.{pow-lt}
use lib.Count.{ones, ones_step, ones_cat}
use Rattle.boolean.proofs.Dots.{bit_cases}
use Rattle.boolean.proofs.OneBit.{ones_none, ones_one, ones_power, power_of_ones}

module _ (p q : ℕ) (l : p < q) where
  xor_shown : bit_xor (2 ^ p) (2 ^ q) ≡ 1 * 2 ^ q + 2 ^ p
  xor_shown = xor_comm (2 ^ p) (2 ^ q) ∙ ap (λ (z : ℕ). bit_xor z (2 ^ p)) (sym (one-mul (2 ^ q))) ∙ xor_shifted 1 q (2 ^ p) (pow-lt l)

  pub xor_powers : bit_xor (2 ^ p) (2 ^ q) ≡ 2 ^ q + 2 ^ p
  xor_powers = xor_shown ∙ ap (λ (z : ℕ). z + 2 ^ p) (one-mul (2 ^ q))

  pub ones_powers : ones (bit_xor (2 ^ p) (2 ^ q)) ≡ 2
  ones_powers = ap ones xor_shown ∙ ones_cat q 1 (2 ^ p) (pow-lt l) ∙ ap₂ (λ (a b : ℕ). a + b) ones_one (ones_power p)

-- a number with two ones is the sum of the powers of two at their places
sum_of_ones : (k v : ℕ) → v < 2 ^ k → ones v ≡ 2 → (p q : ℕ) × (p < q) × (q < k) × (v ≡ 2 ^ q + 2 ^ p)
sum_of_ones zero v h e = absurd (omega (arith, ap ones (let z : v ≡ 0 = omega arith in z), ones_none))
sum_of_ones (suc k) v h e =
    bit_cases (λ b. v % 2 ≡ b → (p q : ℕ) × (p < q) × (q < suc k) × (v ≡ 2 ^ q + 2 ^ p))
    (λ z.
    let t = sum_of_ones k (v / 2) half (omega (arith, step)) in
    (suc t.0, suc t.1, omega (arith, t.2), omega (arith, t.3), omega (arith, t.4, two-pow-succ t.0, two-pow-succ t.1)))
    (λ z.
    let t = power_of_ones k (v / 2) (some (omega (arith, step))) half (omega (arith, step)) in
    (0, suc t.0, omega arith, omega (arith, t.1), omega (arith, t.2, two-pow-succ t.0)))
    (v % 2) (mod-lt v (zero-lt-suc 1)) refl
  where
    half : v / 2 < 2 ^ k
    half = omega (arith, two-pow-succ k)

    step : ones v ≡ v % 2 + ones (v / 2)
    step = ones_step v

    some : ones (v / 2) ≡ 1 → 1 ≤ v / 2
    some o = go (dec_lt 0 (v / 2))
      where
        go : Dec (0 < v / 2) → 1 ≤ v / 2
        go (yes l) = l
        go (no l) = absurd (omega (arith, ap ones (let z : v / 2 ≡ 0 = omega arith in z), ones_none))

-- a number with one or two ones is a power of two, or the XOR of two
pub powers_of_ones : (k v : ℕ) → 1 ≤ v → v < 2 ^ k → ones v ≤ 2
    → ((p : ℕ) × (p < k) × (v ≡ 2 ^ p)) ⊎ ((p q : ℕ) × (p < q) × (q < k) × (v ≡ bit_xor (2 ^ p) (2 ^ q)))
powers_of_ones k v l h few = pick (dec_lt (ones v) 2)
  where
    pick : Dec (ones v < 2) → ((p : ℕ) × (p < k) × (v ≡ 2 ^ p)) ⊎ ((p q : ℕ) × (p < q) × (q < k) × (v ≡ bit_xor (2 ^ p) (2 ^ q)))
    pick (yes o) = inl (power_of_ones k v l h (omega arith))
    pick (no o) = let t = sum_of_ones k v h (omega arith) in inr (t.0, t.1, t.2, t.3, t.4 ∙ sym (xor_powers t.0 t.1 t.2))
