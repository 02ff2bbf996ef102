-- A number from its bits, and its bits from the number. Assumes nothing.
use mathlib.Core.Path.{◌≡◌, sym, ap, ap₂, ◌∙◌}
use Prim.Native.Nat.{ℕ, zero, suc, ◌+◌, ◌*◌, ◌-◌, ◌/◌, ◌%◌, ◌^◌, ◌<◌, ◌≤◌}
use native.Mathlib.Nat.{add_comm, add-zero, add-suc, add_assoc, zero-mul, mul-zero, mul-add, mul_left_comm, mod-eq_of_lt, mod-one, two-pow-succ, mul-le-mul_right, one-mul, div-eq_of_lt, lt_of_lt_of_le}
use native.Mathlib.Numerals.{one-add}
use native.Mathlib.Decide.{dec_lt}
use native.Mathlib.Omega.{arith}
use lib.Pow.{pow_pos, pow_mono, pow-add, high, low, field, mod-pow-add, mod-mod-pow, shr-shr}
use Rattle.boolean.specs.Bits.{bit}
use Rattle.boolean.specs.Sums.{total_below}

-- a bit below 2^k is one of what is left there
pub bit_mod : (v t k : ℕ) → t < k → bit (t + 1) v ≡ bit (t + 1) (v % 2 ^ k)
unfolding bit
bit_mod v t k l =
    let place : t + 1 - 1 ≡ t = omega arith in
    let apart : k - (1 + t) + (1 + t) ≡ k = omega arith in
    let same : v % 2 ^ (1 + t) ≡ v % 2 ^ k % 2 ^ (1 + t) =
    sym (mod-mod-pow v (k - (1 + t)) (1 + t)) ∙ ap (λ (z : ℕ). v % 2 ^ z % 2 ^ (1 + t)) apart in
    ap (λ (z : ℕ). v / 2 ^ z % 2) place ∙ sym (field v 1 t) ∙ ap (λ (z : ℕ). z / 2 ^ t) same ∙ field (v % 2 ^ k) 1 t
    ∙ ap (λ (z : ℕ). v % 2 ^ k / 2 ^ z % 2) (sym place)

-- a bit from bit s + 1 on
bit_shifted : (v k s j : ℕ) → j ≡ s + k + 1 → bit j v ≡ bit (k + 1) (v / 2 ^ s)
unfolding bit
bit_shifted v k s j e =
    let place : j - 1 ≡ s + k = omega arith in
    let back : k ≡ k + 1 - 1 = omega arith in
    ap (λ (z : ℕ). v / 2 ^ z % 2) place ∙ ap (λ (z : ℕ). z % 2) (sym (shr-shr v s k)) ∙ ap (λ (z : ℕ). v / 2 ^ s / 2 ^ z % 2) back

-- and one of the byte that begins there
pub bit_of_byte : (v k s j : ℕ) → k < 8 → j ≡ s + k + 1 → bit j v ≡ bit (k + 1) (v / 2 ^ s % 256)
bit_of_byte v k s j l e = bit_shifted v k s j e ∙ bit_mod (v / 2 ^ s) k 8 l

-- past its digits a number has no bit
pub bit_past : (v u t : ℕ) → v < 2 ^ u → u ≤ t → bit (t + 1) v ≡ 0
unfolding bit
bit_past v u t h l =
    let place : t + 1 - 1 ≡ t = omega arith in
    ap (λ (z : ℕ). v / 2 ^ z % 2) place ∙ ap (λ (z : ℕ). z % 2) (div-eq_of_lt (lt_of_lt_of_le h (pow_mono l)))

pub bit_zero : (j : ℕ) → bit j 0 ≡ 0
unfolding bit
bit_zero j = ap (λ (z : ℕ). z % 2) (div-eq_of_lt (pow_pos (j - 1)))

-- a truth value at a place is no more than the power of two there
placed_le : (b p : ℕ) → b < 2 → b * p ≤ p
placed_le b p h = omega (arith, mul-le-mul_right p (let l : b ≤ 1 = omega arith in l), one-mul p)

module _ (h : ℕ → ℕ) (truth : (s : ℕ) → h s < 2) where
  -- k bits make a number below 2^k
  pub number_lt : (k : ℕ) → total_below k (λ s. h s * 2 ^ s) < 2 ^ k
  unfolding total_below
  number_lt zero = pow_pos 0
  number_lt (suc k) = omega (arith, number_lt k, placed_le (h k) (2 ^ k) (truth k), two-pow-succ k)

  -- whose highest bit is the last of them
  number_top : (k : ℕ) → bit (k + 1) (h k * 2 ^ k + total_below k (λ s. h s * 2 ^ s)) ≡ h k
  unfolding bit
  number_top k =
      let place : k + 1 - 1 ≡ k = omega arith in
      ap (λ (z : ℕ). (h k * 2 ^ k + total_below k (λ s. h s * 2 ^ s)) / 2 ^ z % 2) place ∙ ap (λ (z : ℕ). z % 2) (high (h k) k (number_lt k))
      ∙ mod-eq_of_lt (truth k)

  -- and its bits are these
  pub number_bit : (k t : ℕ) → t < k → bit (t + 1) (total_below k (λ s. h s * 2 ^ s)) ≡ h t
  unfolding total_below
  number_bit zero t l = absurd (omega arith)
  number_bit (suc k) t l = pick (number_bit k t) (dec_lt t k)
    where
      lower : ℕ
      lower = total_below k (λ s. h s * 2 ^ s)

      turned : lower + h k * 2 ^ k ≡ h k * 2 ^ k + lower
      turned = add_comm lower (h k * 2 ^ k)

      pick : (t < k → bit (t + 1) lower ≡ h t) → Dec (t < k) → bit (t + 1) (lower + h k * 2 ^ k) ≡ h t
      pick rec (yes m) =
          bit_mod (lower + h k * 2 ^ k) t k m ∙ ap (bit (t + 1)) (ap (λ (z : ℕ). z % 2 ^ k) turned ∙ low (h k) k (number_lt k)) ∙ rec m
      pick rec (no m) = let e : t ≡ k = omega arith in ap (λ (z : ℕ). bit (z + 1) (lower + h k * 2 ^ k)) e ∙ ap (bit (k + 1)) turned ∙ number_top k ∙ ap h (sym e)

-- the lowest k bits of a number make what is left of it below 2^k
pub number_mod : (v k : ℕ) → total_below k (λ s. bit (s + 1) v * 2 ^ s) ≡ v % 2 ^ k
unfolding total_below bit
number_mod v zero = sym (mod-one v)
number_mod v (suc k) =
    let place : k + 1 - 1 ≡ k = omega arith in
    ap₂ (λ (a z : ℕ). a + v / 2 ^ z % 2 * 2 ^ k) (number_mod v k) place ∙ add_comm (v % 2 ^ k) (v / 2 ^ k % 2 * 2 ^ k) ∙ sym (mod-pow-add v 1 k)
    ∙ ap (λ (z : ℕ). v % 2 ^ z) (one-add k)

-- so that a number of k bits is made of its bits
pub number_back : (v k : ℕ) → v < 2 ^ k → total_below k (λ s. bit (s + 1) v * 2 ^ s) ≡ v
number_back v k h = number_mod v k ∙ mod-eq_of_lt h

-- bits that are 0 from m on add nothing
pub number_ends : (h : ℕ → ℕ) (m k : ℕ) → m ≤ k → ((s : ℕ) → m ≤ s → s < k → h s ≡ 0) → total_below k (λ s. h s * 2 ^ s) ≡ total_below m (λ s. h s * 2 ^ s)
unfolding total_below
number_ends h m zero l z = ap (λ (i : ℕ). total_below i (λ s. h s * 2 ^ s)) (let e : 0 ≡ m = omega arith in e)
number_ends h m (suc k) l z = pick (λ i. number_ends h m k i (λ s a b. z s a (omega arith))) (dec_lt k m)
  where
    pick : (m ≤ k → total_below k (λ s. h s * 2 ^ s) ≡ total_below m (λ s. h s * 2 ^ s)) → Dec (k < m)
        → total_below k (λ s. h s * 2 ^ s) + h k * 2 ^ k ≡ total_below m (λ s. h s * 2 ^ s)
    pick rec (yes i) = ap (λ (i : ℕ). total_below i (λ s. h s * 2 ^ s)) (let e : suc k ≡ m = omega arith in e)
    pick rec (no i) =
        let none : h k * 2 ^ k ≡ 0 = ap (λ (b : ℕ). b * 2 ^ k) (z k (omega arith) (omega arith)) ∙ zero-mul (2 ^ k) in
        omega (arith, rec (omega arith), none)

-- k bits from bit a + 1 on
shifted_bits : (h : ℕ → ℕ) (a k : ℕ) → total_below k (λ t. h t * 2 ^ (a + t)) ≡ 2 ^ a * total_below k (λ t. h t * 2 ^ t)
unfolding total_below
shifted_bits h a zero = sym (mul-zero (2 ^ a))
shifted_bits h a (suc k) =
    ap₂ (λ (x y : ℕ). x + y) (shifted_bits h a k) (ap (λ (z : ℕ). h k * z) (pow-add 2 a k) ∙ mul_left_comm (h k) (2 ^ a) (2 ^ k))
    ∙ sym (mul-add (2 ^ a) (total_below k (λ t. h t * 2 ^ t)) (h k * 2 ^ k))

split_total : (f : ℕ → ℕ) (a k : ℕ) → total_below (a + k) f ≡ total_below a f + total_below k (λ t. f (a + t))
unfolding total_below
split_total f a zero = ap (λ (i : ℕ). total_below i f) (add-zero a) ∙ sym (add-zero (total_below a f))
split_total f a (suc k) =
    ap (λ (i : ℕ). total_below i f) (add-suc a k) ∙ ap (λ (z : ℕ). z + f (a + k)) (split_total f a k)
    ∙ add_assoc (total_below a f) (total_below k (λ t. f (a + t))) (f (a + k))

more_bits : (h : ℕ → ℕ) (a : ℕ) → total_below (a + 8) (λ s. h s * 2 ^ s) ≡ total_below a (λ s. h s * 2 ^ s) + 2 ^ a * total_below 8 (λ t. h (a + t) * 2 ^ t)
more_bits h a =
    split_total (λ s. h s * 2 ^ s) a 8 ∙ ap (λ (z : ℕ). total_below a (λ s. h s * 2 ^ s) + z) (shifted_bits (λ t. h (a + t)) a 8)

-- thirty-two bits, by bytes
pub four_bytes_of_bits : (h : ℕ → ℕ) → total_below 32 (λ s. h s * 2 ^ s)
    ≡ total_below 8 (λ t. h t * 2 ^ t) + 256 * total_below 8 (λ t. h (8 + t) * 2 ^ t) + 65536 * total_below 8 (λ t. h (16 + t) * 2 ^ t)
    + 16777216 * total_below 8 (λ t. h (24 + t) * 2 ^ t)
four_bytes_of_bits h =
    more_bits h 24 ∙ ap (λ (z : ℕ). z + 16777216 * total_below 8 (λ t. h (24 + t) * 2 ^ t))
    (more_bits h 16 ∙ ap (λ (z : ℕ). z + 65536 * total_below 8 (λ t. h (16 + t) * 2 ^ t)) (more_bits h 8))
