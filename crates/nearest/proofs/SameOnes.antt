-- The next mask with as many ones: where adding the lowest one carries to, and the ones that were lost put at the lowest places. Assumes nothing.
use mathlib.Core.Path.{◌≡◌, refl, sym, ap, ◌∙◌, subst}
use Prim.Native.Nat.{ℕ, zero, suc, ◌+◌, ◌*◌, ◌-◌, ◌/◌, ◌%◌, ◌^◌, ◌≤◌, ◌<◌}
use native.Mathlib.Nat.{mod-lt, zero-lt-suc, one-mul, mul_assoc, mul_comm, suc-mul, pow-suc, two-pow-succ}
use native.Mathlib.Decide.{dec_lt}
use native.Mathlib.Omega.{arith}
use lib.Arith.{bin_ind}
use lib.Count.{ones, count_trailing_zeros, ones_step, ones_cat, ones-ones, ones-le}
use lib.Dec.{lit<}
use lib.Pow.{pow_pos, pow_mono, shl_exact}
use Rattle.boolean.proofs.Dots.{bit_cases}
use Rattle.boolean.proofs.OneBit.{ones_one, ones_pos}
use Rattle.masks.specs.Masks.{Next}
use Rattle.masks.proofs.Ones.{ones_none, ones_shifted}
use Rattle.masks.proofs.Trailing.{Odd}
use Rattle.masks.proofs.NextMask.{next_carried, lowest_one, lowest_shifted, power_low}
use Rattle.nearest.specs.Work.{NextOfOnes}

-- ---- of the numbers below 2^j the last alone has j ones
all_ones : (j y : ℕ) → y < 2 ^ j → ones y ≡ j → y ≡ 2 ^ j - 1
all_ones zero y l e = omega arith
all_ones (suc j) y l e =
    let half : y / 2 < 2 ^ j = omega (arith, two-pow-succ j) in
    let step = ones_step y in
    let few = ones-le j (y / 2) half in
    let rest = all_ones j (y / 2) half (omega arith) in
    omega (arith, two-pow-succ j, pow_pos j)

pub ones_fewer : (j y : ℕ) → y < 2 ^ j - 1 → ones y < j
ones_fewer j y l =
    let few = ones-le j y (omega arith) in
    let other : ones y ≡ j → ⊥ = λ e. let z = all_ones j y (omega arith) e in omega arith in
    omega arith

-- ---- one added to a number: what it ends in, and how many ones it loses
abbrev Carried : ℕ → Type 0
Carried a = (q k : ℕ) × (a + 1 ≡ q * 2 ^ k) × (ones a + 1 ≡ ones (a + 1) + k)

carried : (a : ℕ) → Carried a
carried = bin_ind Carried (1, 0, refl, omega (arith, ones_one, ones_none))
    (λ a ih. bit_cases (λ b. a % 2 ≡ b → Carried a)
    (λ e.
    let same : (a + 1) / 2 ≡ a / 2 = omega arith in
    (a + 1, 0, omega arith, omega (arith, ones_step a, ones_step (a + 1), ap ones same)))
    (λ e.
    let same : (a + 1) / 2 ≡ a / 2 + 1 = omega arith in
    let double : a + 1 ≡ (a / 2 + 1) * 2 = omega arith in (
      ih.0,
      suc ih.1,
      double ∙ ap (λ (z : ℕ). z * 2) ih.2 ∙ mul_assoc ih.0 (2 ^ ih.1) 2 ∙ ap (λ (z : ℕ). ih.0 * z) (sym (pow-suc 2 ih.1)),
      omega (arith, ones_step a, ones_step (a + 1), ap ones same, ih.3),
    ))
    (a % 2) (mod-lt a (zero-lt-suc 1)) refl)

regroup : (q x y : ℕ) → q * (x * 2) * y ≡ q * 2 * y * x
regroup q x y =
    ap (λ (z : ℕ). q * z * y) (mul_comm x 2) ∙ ap (λ (z : ℕ). z * y) (sym (mul_assoc q 2 x)) ∙ mul_assoc (q * 2) x y
    ∙ ap (λ (z : ℕ). q * 2 * z) (mul_comm x y) ∙ sym (mul_assoc (q * 2) y x)

-- ---- the lowest one is added to c
module _ (c t : ℕ) (o : Odd c t) where
  abbrev high : ℕ
  high = c + 2 ^ t

  next : Next (ones c) c high
  next = next_carried (ones c) c t o refl

  pub no_more : ones high ≤ ones c
  no_more = next.few

  -- as many zeros stand at its end as ones were lost, and one more
  room : (q : ℕ) × (high ≡ q * 2 ^ (ones c - ones high))
  room =
      let a = o.0 * 2 + 1 in
      let s = carried a in
      let is : high ≡ (a + 1) * 2 ^ t = ap (λ (z : ℕ). z + 2 ^ t) o.1 ∙ sym (omega (arith, suc-mul a (2 ^ t), ap (λ (z : ℕ). z * 2 ^ t) (one_more a))) in
      let more : s.1 ≡ suc (ones c - ones high) = omega (arith, s.3, no_more, ap ones o.1 ∙ ones_shifted t a, ap ones is ∙ ones_shifted t (a + 1)) in (
        s.0 * 2 * 2 ^ t,
        is ∙ ap (λ (z : ℕ). z * 2 ^ t) s.2 ∙ ap (λ (k : ℕ). s.0 * 2 ^ k * 2 ^ t) more
            ∙ ap (λ (z : ℕ). s.0 * z * 2 ^ t) (pow-suc 2 (ones c - ones high)) ∙ regroup s.0 (2 ^ (ones c - ones high)) (2 ^ t),
      )
    where
      one_more : (a : ℕ) → a + 1 ≡ suc a
      one_more a = omega arith

  ones_above : (y : ℕ) → y < 2 ^ (ones c - ones high) → ones (high + y) ≡ ones high + ones y
  ones_above y l =
      let j = ones c - ones high in
      let s = room in
      ap (λ (z : ℕ). ones (z + y)) s.1 ∙ ones_cat j s.0 y l
      ∙ ap (λ (k : ℕ). k + ones y) (sym (ap ones s.1 ∙ ones_shifted j s.0))

  pub next_of_ones : NextOfOnes c (high + (2 ^ (ones c - ones high) - 1))
  next_of_ones = record {
    above = omega (arith, pow_pos t);
    same = ones_above (2 ^ j - 1) (omega (arith, pow_pos j)) ∙ (let z : ones high + ones (2 ^ j - 1) ≡ ones c = omega (arith, ones-ones j, no_more) in z);
    between = λ x l h e. pick x l h e (dec_lt x high);
  }
    where
      j : ℕ
      j = ones c - ones high

      pick : (x : ℕ) → c < x → x < high + (2 ^ j - 1) → ones x ≡ ones c → Dec (x < high) → ⊥
      pick x l h e (yes k) = let z = next.between x l k in omega arith
      pick x l h e (no k) =
          let is : high + (x - high) ≡ x = omega arith in
          omega (arith, ap ones is, ones_above (x - high) (omega arith), ones_fewer j (x - high) (omega arith), no_more)

-- ---- as the machine computes it, of a mask of 32 bits
module _ (c : ℕ) (low : 1 ≤ c) (small : c < 4294967296) where
  abbrev place : ℕ
  place = count_trailing_zeros 64 c

  pub some_ones : 1 ≤ ones c
  some_ones = ones_pos c low

  odd : Odd c place
  odd = lowest_one c some_ones small

  pub lowest : 1 * 2 ^ place % 2 ^ 64 ≡ 2 ^ place
  lowest = lowest_shifted c some_ones small

  pub lowest_low : 2 ^ place ≤ c
  lowest_low = power_low c place odd

  -- the lowest one as it was shifted there, and the ones that were lost
  module _ {step : ℕ} (e : step ≡ 2 ^ place) where
    abbrev lost : ℕ
    lost = ones c - ones (c + step)

    pub lost_sub : ones (c + step) ≤ ones c
    lost_sub = subst (λ (z : ℕ). ones (c + z) ≤ ones c) (sym e) (no_more c place odd)

    lost_small : lost ≤ 32
    lost_small = omega (arith, ones-le 32 c small)

    pub lost_shifted : 1 * 2 ^ lost % 2 ^ 64 ≡ 2 ^ lost
    lost_shifted = shl_exact 1 lost 64 (lit< tt) (omega (arith, lost_small)) ∙ one-mul (2 ^ lost)

    pub lost_power : 2 ^ lost ≤ 4294967296
    lost_power = pow_mono {i = lost} {j = 32} lost_small

    pub next_is : {power : ℕ} → power ≡ 2 ^ lost → NextOfOnes c (c + step + (power - 1))
    next_is q =
        subst (λ (z : ℕ). NextOfOnes c (c + step + (z - 1))) (sym q)
        (subst (λ (z : ℕ). NextOfOnes c (c + z + (2 ^ (ones c - ones (c + z)) - 1))) (sym e) (next_of_ones c place odd))
