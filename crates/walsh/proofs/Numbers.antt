-- The number of a function of three inputs: read from the highest input down, one bit at a time.
-- Assumes nothing.
use mathlib.Core.Path.{◌≡◌, refl, sym, ap, ap₂, ◌∙◌, subst}
use mathlib.Core.List.{List}
use Prim.Native.Nat.{ℕ, zero, suc, ◌+◌, ◌-◌, ◌*◌, ◌/◌, ◌%◌, ◌^◌, ◌≤◌, ◌<◌}
use native.Mathlib.Nat.{le_refl, div-div-eq-div-mul}
use native.Mathlib.Omega.{arith}
use lib.Dec.{lit<, eqb}
use lib.IntN.{ℤ, pos, ◌-ℤ◌}
use lib.ListN.{length, set}
use Rattle.boolean.specs.Bits.{dot}
use Rattle.boolean.specs.Sums.{count_below}
use Rattle.boolean.specs.Functions.{at, value_at, approximation}
use Rattle.boolean.proofs.Approximations.{approximation_cong, half_power}
use Rattle.boolean.proofs.Filled.{Filled, filled_more}
use Rattle.walsh.specs.FixedTable.{function_numbered, Spectra}
use Rattle.walsh.specs.Work.{four_values, with_four}

-- t has the values of the table from x on, up to the eighth
pub record Numbered (table : List ℕ) (t x : ℕ) : Type 0 where
  pub within : x ≤ 8
  pub small : t < 2 ^ (8 - x)
  pub bits : (k : ℕ) → x + k < 8 → t / 2 ^ k % 2 ≡ at table (x + k)

pub numbered_none : (table : List ℕ) → Numbered table 0 8
numbered_none table = record { within = le_refl 8; small = le_refl 1; bits = λ k h. absurd (omega arith) }

-- the lowest bit of 2t + b, and its others
bit_zero : (t b : ℕ) → b < 2 → (2 * t + b) / 2 ^ 0 % 2 ≡ b
bit_zero t b h = omega arith

bit_suc : (t b k : ℕ) → b < 2 → (2 * t + b) / 2 ^ suc k % 2 ≡ t / 2 ^ k % 2
bit_suc t b k h =
    let half : (2 * t + b) / 2 ≡ t = omega arith in
    let e : 2 ^ suc k ≡ 2 * 2 ^ k = omega arith in
    ap (λ (m : ℕ). (2 * t + b) / m % 2) e
    ∙ ap (λ (m : ℕ). m % 2) (sym (div-div-eq-div-mul (2 * t + b) 2 (2 ^ k)))
    ∙ ap (λ (m : ℕ). m / 2 ^ k % 2) half

-- one more value, from the front
module _ (table : List ℕ) (t x b : ℕ) (s : Numbered table t x) (lt : 0 < x) (bit : b < 2) (e : b ≡ at table (x - 1)) where
  more_bits : (k : ℕ) → x - 1 + k < 8 → (2 * t + b) / 2 ^ k % 2 ≡ at table (x - 1 + k)
  more_bits zero h = bit_zero t b bit ∙ e ∙ ap (at table) (let j : x - 1 ≡ x - 1 + 0 = omega arith in j)
  more_bits (suc k) h = bit_suc t b k bit ∙ s.bits k (omega arith) ∙ ap (at table) (let j : x + k ≡ x - 1 + suc k = omega arith in j)

  twice : 2 ^ (8 - (x - 1)) ≡ 2 * 2 ^ (8 - x)
  twice =
      let d : 8 - (x - 1) ≡ suc (8 - x) = omega (arith, s.within) in
      ap (λ (j : ℕ). 2 ^ j) d ∙ omega arith

  pub numbered_more : Numbered table (2 * t + b) (x - 1)
  numbered_more = record {
    within = omega (arith, s.within);
    small = omega (arith, twice, s.small, bit);
    bits = more_bits;
  }

-- at the end all eight are there
pub numbered_whole : (table : List ℕ) (t x : ℕ) → Numbered table t x → x ≡ 0 → (t < 256) × ((k : ℕ) → k < 8 → function_numbered t k ≡ at table k)
unfolding function_numbered
numbered_whole table t x s e = whole (subst (Numbered table t) e s)
  where
    whole : Numbered table t 0 → (t < 256) × ((k : ℕ) → k < 8 → t / 2 ^ k % 2 ≡ at table k)
    whole s = (s.small, λ k h. let j : 0 + k ≡ k = omega arith in s.bits k (omega arith) ∙ ap (at table) j)

-- bits 24 to 31 of a number
middle : (low number high : ℕ) → low < 16777216 → number < 256 → (low + 16777216 * number + 4294967296 * high) / 16777216 % 256 ≡ number
middle low number high l n =
    let whole : (low + 16777216 * number + 4294967296 * high) / 16777216 ≡ number + 256 * high = omega arith in
    ap (λ (k : ℕ). k % 256) whole ∙ omega arith

-- eight truth values, four in the low halves of four bytes and four in the high ones, and what the product makes of them
spread : (a b c d e f g h : ℕ) → a < 2 → b < 2 → c < 2 → d < 2 → e < 2 → f < 2 → g < 2 → h < 2 →
    (a + 256 * b + 65536 * c + 16777216 * d + 16 * (e + 256 * f + 65536 * g + 16777216 * h)) * 16909320 / 16777216 % 256
    ≡ 2 * (2 * (2 * (2 * (2 * (2 * (2 * (2 * 0 + h) + g) + f) + e) + d) + c) + b) + a
spread a b c d e f g h la lb lc ld le lf lg lh =
    let low = 132104 * a + 264192 * b + 524288 * c + 16 * (132104 * e + 264192 * f + 524288 * g) in
    let number = 2 * (2 * (2 * (2 * (2 * (2 * (2 * (2 * 0 + h) + g) + f) + e) + d) + c) + b) + a in
    let high = b + 258 * c + 66052 * d + 16 * (f + 258 * g + 66052 * h) in
    let parts : (a + 256 * b + 65536 * c + 16777216 * d + 16 * (e + 256 * f + 65536 * g + 16777216 * h)) * 16909320
    ≡ low + 16777216 * number + 4294967296 * high = omega arith in
    ap (λ (k : ℕ). k / 16777216 % 256) parts ∙ middle low number high (omega arith) (omega arith)

module _ (table : List ℕ) (bits : (k : ℕ) → at table k < 2) where
  pub bytes_small : (place : ℕ) → four_values table place ≤ 16843009
  unfolding four_values
  bytes_small place = omega (arith, bits place, bits (place + 1), bits (place + 2), bits (place + 3))

  before : (t x : ℕ) → Numbered table t x → 0 < x → Numbered table (2 * t + at table (x - 1)) (x - 1)
  before t x s lt = numbered_more table t x (at table (x - 1)) s lt (bits (x - 1)) refl

  pub number_is : (t : ℕ) → t ≡ (four_values table 0 + 16 * four_values table 4) * 16909320 / 16777216 % 256
      → (t < 256) × ((k : ℕ) → k < 8 → function_numbered t k ≡ at table k)
  unfolding four_values
  number_is t e =
      numbered_whole table t 0
      (subst (λ (t : ℕ). Numbered table t 0)
      (sym (e ∙ spread _ _ _ _ _ _ _ _ (bits 0) (bits 1) (bits 2) (bits 3) (bits 4) (bits 5) (bits 6) (bits 7)))
      (before _ 1 (before _ 2 (before _ 3 (before _ 4 (before _ 5 (before _ 6 (before _ 7 (before 0 8 (numbered_none table)
      (lit< tt)) (lit< tt)) (lit< tt)) (lit< tt)) (lit< tt)) (lit< tt)) (lit< tt)) (lit< tt))) refl

-- what the fixed table has for a function that has the number t
pub entry_is : (fixed : List ℤ) (f : ℕ → ℕ) (t w : ℕ) → Spectra fixed → t < 256 → ((x : ℕ) → x < 8 → function_numbered t x ≡ f x) → w < 8
    → value_at fixed (t * 8 + w) ≡ approximation 3 f w
entry_is fixed f t w s small e h =
    let row : (t * 8 + w) / 8 ≡ t = omega arith in
    let place : (t * 8 + w) % 8 ≡ w = omega arith in
    s.rule (t * 8 + w) (omega arith) ∙ ap₂ (λ (a b : ℕ). approximation 3 (function_numbered a) b) row place ∙ approximation_cong 3 (function_numbered t) f w e

-- four of its entries, written where the array is filled up to
module _ (fixed : List ℤ) (f : ℕ → ℕ) (t : ℕ) (s : Spectra fixed) (small : t < 256) (e : (x : ℕ) → x < 8 → function_numbered t x ≡ f x) where
  one_more : (from to k i : ℕ) (out : List ℤ) → from ≡ t * 8 + to → i ≡ to + k → to + k < 8 → Filled (pos 0) (λ v. approximation 3 f v) 8 i out →
      Filled (pos 0) (λ v. approximation 3 f v) 8 (to + k + 1) (set out (to + k) (value_at fixed (from + k)))
  one_more from to k i out place same inside filled =
      let index : from + k ≡ t * 8 + (to + k) = omega arith in
      filled_more (pos 0) (λ v. approximation 3 f v) 8 (to + k) out (subst (λ (j : ℕ). Filled (pos 0) (λ v. approximation 3 f v) 8 j out) same filled) inside _
      (ap (value_at fixed) index ∙ entry_is fixed f t (to + k) s small e inside)

  pub four_more : (from to : ℕ) (out : List ℤ) → from ≡ t * 8 + to → to + 4 ≤ 8 → Filled (pos 0) (λ v. approximation 3 f v) 8 to out →
      Filled (pos 0) (λ v. approximation 3 f v) 8 (to + 4) (with_four out to fixed from)
  unfolding with_four
  four_more from to out place inside filled =
      let a = filled_more (pos 0) (λ v. approximation 3 f v) 8 to out filled (omega arith) _ (ap (value_at fixed) place ∙ entry_is fixed f t to s small e (omega arith)) in
      let b = one_more from to 1 _ _ place refl (omega arith) a in
      let c = one_more from to 2 _ _ place (omega arith) (omega arith) b in
      let d = one_more from to 3 _ _ place (omega arith) (omega arith) c in
      let end : to + 3 + 1 ≡ to + 4 = omega arith in
      subst (λ (j : ℕ). Filled (pos 0) (λ v. approximation 3 f v) 8 j (with_four out to fixed from)) end d

-- the definition, with as many inputs as the table has
pub by_size : (n : ℕ) (table : List ℕ) (w : ℕ) → 1 ≤ n → length table ≡ 2 ^ n
    → pos (count_below (length table) (λ x. eqb (at table x) (dot w x))) -ℤ pos (length table / 2) ≡ approximation n (at table) w
unfolding approximation
by_size n table w low e =
    let half : length table / 2 ≡ 2 ^ (n - 1) = omega (arith, half_power n low) in
    ap₂ (λ (k h : ℕ). pos (count_below k (λ x. eqb (at table x) (dot w x))) -ℤ pos h) e half
