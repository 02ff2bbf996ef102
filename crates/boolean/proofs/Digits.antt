-- The bits of a number, of XORs, and of a bit set at a place; and the components of a box's rows, one bit each.
use mathlib.Core.Path.{◌≡◌, refl, sym, ap, ap₂, ◌∙◌}
use mathlib.Core.Logic.{◌≢◌}
use mathlib.Core.List.{List}
use Prim.Native.Nat.{ℕ, suc, ◌+◌, ◌*◌, ◌-◌, ◌/◌, ◌%◌, ◌^◌, ◌<◌, ◌≤◌}
use native.Mathlib.Nat.{add-zero, zero-add, zero-mul, one-mul, mul-zero, mul-one, mod-lt, mod-eq_of_lt, zero-lt-suc}
use native.Mathlib.Omega.{arith}
use native.Mathlib.Decide.{dec_lt}
use lib.Pow.{pow_pos, pow-lt, pow-add, split, high, shl-shr}
use lib.Bits.{bit_and, bit_xor, and_comm, and_mask, xor_lt, xor_shr, xor_mod}
use lib.Count.{ones, ones_in}
use Rattle.boolean.specs.Bits.{dot, affine, bit}
use Rattle.boolean.specs.Functions.{at, component}
use Rattle.boolean.proofs.Dots.{bit_cases, dot_bit, dot_zero, dot_xor_r, dot_block, ones_bit}

pub bit_lt : (j v : ℕ) → bit j v < 2
unfolding bit
bit_lt j v = mod-lt (v / 2 ^ (j - 1)) (zero-lt-suc 1)

pub affine_lt : (w b x : ℕ) → b < 2 → affine w b x < 2
unfolding affine
affine_lt w b x h = xor_lt 1 (dot w x) b (dot_bit w x) h

pub component_dot : (rows : List ℕ) (c x : ℕ) → component rows c x ≡ dot (at rows x) c
unfolding component dot
component_dot rows c x = refl

pub component_lt : (rows : List ℕ) (c x : ℕ) → component rows c x < 2
unfolding component dot
component_lt rows c x = dot_bit (at rows x) c

-- XORed masks give the XOR of the components
pub component_xor : (rows : List ℕ) (a b x : ℕ) → bit_xor (component rows a x) (component rows b x) ≡ component rows (bit_xor a b) x
component_xor rows a b x =
    ap₂ bit_xor (component_dot rows a x) (component_dot rows b x) ∙ sym (dot_xor_r (at rows x) a b) ∙ sym (component_dot rows (bit_xor a b) x)

-- the bits of an XOR are the XORs of the bits
pub bit_of_xor : (j a b : ℕ) → bit j (bit_xor a b) ≡ bit_xor (bit j a) (bit j b)
unfolding bit
bit_of_xor j a b = ap (λ (z : ℕ). z % 2) (xor_shr a b (j - 1)) ∙ xor_mod (a / 2 ^ (j - 1)) (b / 2 ^ (j - 1)) 1

-- a bit t set at j: its bit j is t, every other is 0
pub bit_placed : (j t : ℕ) → t < 2 → bit j (t * 2 ^ (j - 1)) ≡ t
unfolding bit
bit_placed j t h = ap (λ (z : ℕ). z % 2) (shl-shr t (j - 1)) ∙ mod-eq_of_lt h

power_bit : (i k : ℕ) → i ≢ k → 2 ^ k / 2 ^ i % 2 ≡ 0
power_bit i k e = pick (dec_lt k i)
  where
    pick : Dec (k < i) → 2 ^ k / 2 ^ i % 2 ≡ 0
    pick (yes l) = ap (λ (z : ℕ). z % 2)
        (ap (λ (z : ℕ). z / 2 ^ i) (sym (zero-add (2 ^ k)) ∙ ap (λ (z : ℕ). z + 2 ^ k) (sym (zero-mul (2 ^ i)))) ∙ high 0 i (pow-lt l))
    pick (no l) =
        let s : k ≡ suc (k - i - 1) + i = omega arith in
        ap (λ (z : ℕ). z % 2) (ap (λ (z : ℕ). 2 ^ z / 2 ^ i) s ∙ ap (λ (z : ℕ). z / 2 ^ i) (pow-add 2 (suc (k - i - 1)) i) ∙ shl-shr (2 ^ suc (k - i - 1)) i)
        ∙ omega arith

pub bit_placed_other : (i j t : ℕ) → 1 ≤ i → 1 ≤ j → i ≢ j → t < 2 → bit i (t * 2 ^ (j - 1)) ≡ 0
unfolding bit
bit_placed_other i j t hi hj e = bit_cases (λ t. t * 2 ^ (j - 1) / 2 ^ (i - 1) % 2 ≡ 0)
    (ap (λ (z : ℕ). z / 2 ^ (i - 1) % 2) (zero-mul (2 ^ (j - 1)) ∙ sym (zero-mul (2 ^ (i - 1)))) ∙ ap (λ (z : ℕ). z % 2) (shl-shr 0 (i - 1)))
    (ap (λ (z : ℕ). z / 2 ^ (i - 1) % 2) (one-mul (2 ^ (j - 1))) ∙ power_bit (i - 1) (j - 1) (omega arith)) t

-- a bit t set at j meets bit j of c
pub dot_placed : (j t c : ℕ) → t < 2 → dot (t * 2 ^ (j - 1)) c ≡ t * bit j c
unfolding bit ones ones_in
dot_placed j t c h =
    ap₂ dot (sym (add-zero (t * 2 ^ k))) (sym (split c k)) ∙ dot_block k t (c / 2 ^ k) 0 (c % 2 ^ k) (pow_pos k) (mod-lt c (pow_pos k))
    ∙ ap (λ (z : ℕ). (ones (bit_and t (c / 2 ^ k)) + z) % 2) (dot_zero (c % 2 ^ k))
    ∙ bit_cases (λ t. (ones (bit_and t (c / 2 ^ k)) + 0) % 2 ≡ t * (c / 2 ^ k % 2)) (sym (zero-mul (c / 2 ^ k % 2))) set t h
  where
    k : ℕ
    k = j - 1

    tidy : (q : ℕ) → (q % 2 + 0) % 2 ≡ 1 * (q % 2)
    tidy q = omega arith

    set : (ones (bit_and 1 (c / 2 ^ k)) + 0) % 2 ≡ 1 * (c / 2 ^ k % 2)
    set =
        ap (λ (z : ℕ). (ones z + 0) % 2) (and_comm 1 (c / 2 ^ k) ∙ and_mask (c / 2 ^ k) 1)
        ∙ ap (λ (z : ℕ). (z + 0) % 2) (ones_bit (c / 2 ^ k % 2) (mod-lt (c / 2 ^ k) (zero-lt-suc 1))) ∙ tidy (c / 2 ^ k)

-- an affine function times a bit is an affine function
pub affine_times : (w b x t : ℕ) → t < 2 → affine w b x * t ≡ affine (w * t) (b * t) x
unfolding affine
affine_times w b x = bit_cases (λ t. affine w b x * t ≡ affine (w * t) (b * t) x)
    (mul-zero (affine w b x) ∙ sym (ap₂ (λ (v a : ℕ). affine v a x) (mul-zero w) (mul-zero b) ∙ ap (λ (z : ℕ). bit_xor z 0) (dot_zero x)))
    (mul-one (affine w b x) ∙ sym (ap₂ (λ (v a : ℕ). affine v a x) (mul-one w) (mul-one b)))
