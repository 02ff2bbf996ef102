-- Words of four bytes, a byte for each of four columns: how their bits are taken and put together. Assumes nothing.
use mathlib.Core.Path.{◌≡◌, sym, ap, ap₂, ◌∙◌}
use mathlib.Core.List.{List}
use Prim.Native.Nat.{ℕ, zero, suc, ◌+◌, ◌*◌, ◌-◌, ◌/◌, ◌%◌, ◌^◌, ◌<◌, ◌≤◌}
use native.Mathlib.Nat.{add-zero, mul-zero, mul_comm, mul-add, mul_left_comm, mul-le-mul, mod-lt, two-pow-succ}
use native.Mathlib.Omega.{arith}
use lib.Pow.{pow_pos, pow_mono, split, shr-shr, shl-shr}
use lib.Bits.{bit_and, and_mask, and_block, and_zero_r}
use Rattle.boolean.specs.Bits.{bit}
use Rattle.boolean.specs.Sums.{total_below}
use Rattle.boolean.proofs.Digits.{bit_lt}
use Rattle.packing.specs.Work.{word_of, byte_of, bits_gathered, eight}

-- the lowest bit of each byte of a word
step : (x c : ℕ) → bit_and x (c * 2 ^ 8 + 1) ≡ bit_and (x / 2 ^ 8) c * 2 ^ 8 + x % 2
step x c =
    ap (λ (z : ℕ). bit_and z (c * 2 ^ 8 + 1)) (sym (split x 8))
    ∙ and_block 8 (x / 2 ^ 8) c (x % 2 ^ 8) 1 (mod-lt x (pow_pos 8)) (omega arith)
    ∙ ap (λ (z : ℕ). bit_and (x / 2 ^ 8) c * 2 ^ 8 + z) (and_mask (x % 2 ^ 8) 1 ∙ (let e : x % 256 % 2 ≡ x % 2 = omega arith in e))

lowest_bits : (x : ℕ) → bit_and x 16843009 ≡ x % 2 + 256 * (x / 2 ^ 8 % 2) + 65536 * (x / 2 ^ 8 / 2 ^ 8 % 2) + 16777216 * (x / 2 ^ 8 / 2 ^ 8 / 2 ^ 8 % 2)
lowest_bits x =
    let third = step (x / 2 ^ 8 / 2 ^ 8) 1 in
    let second = step (x / 2 ^ 8) 257 in
    let last : bit_and (x / 2 ^ 8 / 2 ^ 8 / 2 ^ 8) 1 ≡ x / 2 ^ 8 / 2 ^ 8 / 2 ^ 8 % 2 = and_mask (x / 2 ^ 8 / 2 ^ 8 / 2 ^ 8) 1 in
    omega (arith, step x 65793, second, third, last)

-- the bits i + 1, i + 9, i + 17 and i + 25 of v
spread_is : (v i : ℕ) → bit_and (v / 2 ^ i) 16843009 ≡ word_of (λ j. bit j v) i
unfolding word_of bit
spread_is v i =
    let first : v / 2 ^ (i + 1 - 1) ≡ v / 2 ^ i = ap (λ (z : ℕ). v / 2 ^ z) (let e : i + 1 - 1 ≡ i = omega arith in e) in
    let second : v / 2 ^ (i + 9 - 1) ≡ v / 2 ^ i / 2 ^ 8 = ap (λ (z : ℕ). v / 2 ^ z) (let e : i + 9 - 1 ≡ i + 8 = omega arith in e) ∙ sym (shr-shr v i 8) in
    let third : v / 2 ^ (i + 17 - 1) ≡ v / 2 ^ i / 2 ^ 8 / 2 ^ 8 =
    ap (λ (z : ℕ). v / 2 ^ z) (let e : i + 17 - 1 ≡ i + 8 + 8 = omega arith in e) ∙ sym (shr-shr v (i + 8) 8)
    ∙ ap (λ (z : ℕ). z / 2 ^ 8) (sym (shr-shr v i 8)) in
    let fourth : v / 2 ^ (i + 25 - 1) ≡ v / 2 ^ i / 2 ^ 8 / 2 ^ 8 / 2 ^ 8 =
    ap (λ (z : ℕ). v / 2 ^ z) (let e : i + 25 - 1 ≡ i + 8 + 8 + 8 = omega arith in e) ∙ sym (shr-shr v (i + 8 + 8) 8)
    ∙ ap (λ (z : ℕ). z / 2 ^ 8) (sym (shr-shr v (i + 8) 8) ∙ ap (λ (z : ℕ). z / 2 ^ 8) (sym (shr-shr v i 8))) in
    omega (
      arith,
      lowest_bits (v / 2 ^ i),
      ap (λ (z : ℕ). z % 2) first,
      ap (λ (z : ℕ). z % 2) second,
      ap (λ (z : ℕ). z % 2) third,
      ap (λ (z : ℕ). z % 2) fourth,
    )

-- and where they stand
pub kept_is : (v i : ℕ) → bit_and v (16843009 * 2 ^ i) ≡ 2 ^ i * word_of (λ j. bit j v) i
kept_is v i =
    ap₂ bit_and (sym (split v i)) (sym (add-zero (16843009 * 2 ^ i))) ∙ and_block i (v / 2 ^ i) 16843009 (v % 2 ^ i) 0 (mod-lt v (pow_pos i)) (pow_pos i)
    ∙ ap (λ (z : ℕ). bit_and (v / 2 ^ i) 16843009 * 2 ^ i + z) (and_zero_r (v % 2 ^ i)) ∙ add-zero (bit_and (v / 2 ^ i) 16843009 * 2 ^ i)
    ∙ ap (λ (z : ℕ). z * 2 ^ i) (spread_is v i) ∙ mul_comm (word_of (λ j. bit j v) i) (2 ^ i)

-- bit j of the last k of eight numbers: what was gathered moves up by one bit for each number before them
unfoldable pub upper : (ℕ → ℕ) → ℕ → ℕ → ℕ
upper f j zero = 0
upper f j (suc k) = 2 * upper f j k + bit j (f (7 - k))

pub upper_lt : (f : ℕ → ℕ) (j k : ℕ) → upper f j k < 2 ^ k
unfolding upper
upper_lt f j zero = pow_pos 0
upper_lt f j (suc k) = omega (arith, upper_lt f j k, bit_lt j (f (7 - k)), two-pow-succ k)

-- all eight make the byte
pub upper_all : (f : ℕ → ℕ) (j : ℕ) → upper f j 8 ≡ byte_of f j
unfolding upper byte_of total_below
upper_all f j = omega arith

pub byte_lt : (f : ℕ → ℕ) (j : ℕ) → byte_of f j < 256
byte_lt f j = omega (arith, upper_lt f j 8, upper_all f j)

-- one turn of the gathering, and what it needs to fit
module _ (f : ℕ → ℕ) (i k : ℕ) where
  word_more : word_of (λ j. upper f j (suc k)) i ≡ 2 * word_of (λ j. upper f j k) i + word_of (λ j. bit j (f (7 - k))) i
  unfolding word_of upper
  word_more = omega arith

  word_lt : k ≤ 8 → word_of (λ j. upper f j k) i < 2 ^ 32
  unfolding word_of
  word_lt h =
      let few : 2 ^ k ≤ 256 = pow_mono {i = k} {j = 8} h in
      omega (arith, upper_lt f (i + 1) k, upper_lt f (i + 9) k, upper_lt f (i + 17) k, upper_lt f (i + 25) k)

module _ (f : ℕ → ℕ) (i k : ℕ) {word more : ℕ} (e : word ≡ 2 ^ i * word_of (λ j. upper f j k) i) (q : more ≡ 2 ^ i * word_of (λ j. bit j (f (7 - k))) i) where
  pub gathered_more : 2 * word + more ≡ 2 ^ i * word_of (λ j. upper f j (suc k)) i
  gathered_more =
      ap₂ (λ (x y : ℕ). 2 * x + y) e q ∙ ap (λ (z : ℕ). z + 2 ^ i * word_of (λ j. bit j (f (7 - k))) i) (mul_left_comm 2 (2 ^ i) (word_of (λ j. upper f j k) i))
      ∙ sym (mul-add (2 ^ i) (2 * word_of (λ j. upper f j k) i) (word_of (λ j. bit j (f (7 - k))) i)) ∙ ap (λ (z : ℕ). 2 ^ i * z) (sym (word_more f i k))

  pub gathered_fits : i < 8 → k < 8 → 2 * word + more < 2 ^ 64
  gathered_fits h l =
      let lanes : 2 ^ i ≤ 128 = pow_mono {i = i} {j = 7} (omega arith) in
      let whole : word_of (λ j. upper f j (suc k)) i ≤ 4294967296 = omega (arith, word_lt f i (suc k) (omega arith)) in
      omega (arith, gathered_more, mul-le-mul lanes whole)

pub gathered_none : (f : ℕ → ℕ) (i : ℕ) → 0 ≡ 2 ^ i * word_of (λ j. upper f j 0) i
unfolding word_of upper
gathered_none f i = sym (mul-zero (2 ^ i))

-- a word from its bytes
pub word_is : (b : ℕ → ℕ) (i : ℕ) {first second third fourth : ℕ} → b (i + 1) ≡ first → b (i + 9) ≡ second → b (i + 17) ≡ third → b (i + 25) ≡ fourth
    → word_of b i ≡ first + 256 * second + 65536 * third + 16777216 * fourth
unfolding word_of
word_is b i p q r s = omega arith

-- equal bytes make equal words
pub word_cong : (b c : ℕ → ℕ) (i : ℕ) → ((j : ℕ) → b j ≡ c j) → word_of b i ≡ word_of c i
unfolding word_of
word_cong b c i e = omega (arith, e (i + 1), e (i + 9), e (i + 17), e (i + 25))

-- all eight, brought to their places
module _ (values : List ℕ) (start gap i : ℕ) {word : ℕ} (e : word ≡ 2 ^ i * word_of (λ j. upper (eight values start gap) j 8) i) where
  placed : word / 2 ^ i ≡ word_of (λ j. upper (eight values start gap) j 8) i
  placed =
      ap (λ (z : ℕ). z / 2 ^ i) (e ∙ mul_comm (2 ^ i) (word_of (λ j. upper (eight values start gap) j 8) i))
      ∙ shl-shr (word_of (λ j. upper (eight values start gap) j 8) i) i

  pub gathered_lt : word / 2 ^ i < 2 ^ 32
  gathered_lt = omega (arith, placed, word_lt (eight values start gap) i 8 (omega arith))

  pub gathered_all : word / 2 ^ i ≡ bits_gathered values start gap i
  unfolding bits_gathered
  gathered_all = placed ∙ word_cong _ _ i (upper_all (eight values start gap))
