-- The pairs of inputs x and x XOR a: a test that is the same at both inputs of a pair passes at twice as many inputs as at those without the
-- highest bit of a. So a cell's count is twice its count among the pairs. Assumes nothing.
use mathlib.Core.Path.{◌≡◌, sym, ap, ◌∙◌, subst}
use mathlib.Core.Bool.{Bool}
use mathlib.Core.List.{List}
use Prim.Native.Nat.{ℕ, zero, suc, ◌+◌, ◌*◌, ◌-◌, ◌/◌, ◌%◌, ◌^◌, ◌<◌, ◌≤◌}
use native.Mathlib.Nat.{mod-eq_of_lt, mul-add-mod_self_right, two-pow-succ}
use native.Mathlib.Decide.{dec_le}
use native.Mathlib.Omega.{arith}
use lib.Bits.{bit_and, bit_xor, and_le_l, and_mask, xor_comm, xor_lt}
use lib.Dec.{eqb}
use lib.ListN.{length}
use lib.Pow.{pow-add, pow_mono}
use Rattle.boolean.specs.Sums.{count_below}
use Rattle.boolean.specs.Functions.{at, occurrences}
use Rattle.boolean.proofs.Counts.{count_cong, count_halves}
use Rattle.boolean.proofs.Lists.{length_list_below, get_or_list_below}
use Rattle.boolean.proofs.Transform.{lower_lt, upper_lt, xor_10, xor_11}
use Rattle.boolean.proofs.Xor.{xor_cancel}
use Rattle.refusals.specs.Table.{Box}
use Rattle.boolean.proofs.Shifts.{count_shift}
use Rattle.differential.specs.XorTable.{difference, cell}
use Rattle.differential.specs.Running.{HighestBit, lower_input, pair_differences, Paired}

-- the test is the same at the two inputs of each pair
abbrev SameInPairs : (k a : ℕ) (p : ℕ → Bool) → Type 0
SameInPairs k a p = (x : ℕ) → x < 2 ^ k → p (bit_xor x a) ≡ p x

module _ (t : ℕ) where
  -- ---- a 0 put in at the bit 2^t: the numbers below it stay, and each bit above it moves up by one
  input_low : (y : ℕ) → y < 2 ^ t → lower_input (2 ^ t) y ≡ y
  unfolding lower_input
  input_low y l = let e : bit_and y (2 ^ t - 1) ≡ y = and_mask y t ∙ mod-eq_of_lt l in omega arith

  input_high : (k y : ℕ) → t ≤ k → lower_input (2 ^ t) (2 ^ k + y) ≡ 2 ^ suc k + lower_input (2 ^ t) y
  unfolding lower_input
  input_high k y h =
      let above : 2 ^ k ≡ 2 ^ (k - t) * 2 ^ t = ap (λ (i : ℕ). 2 ^ i) (let z : k ≡ k - t + t = omega arith in z) ∙ pow-add 2 (k - t) t in
      let e : bit_and (2 ^ k + y) (2 ^ t - 1) ≡ bit_and y (2 ^ t - 1) =
      and_mask (2 ^ k + y) t ∙ ap (λ (z : ℕ). (z + y) % 2 ^ t) above ∙ mul-add-mod_self_right (2 ^ (k - t)) (2 ^ t) y ∙ sym (and_mask y t) in
      omega (arith, two-pow-succ k, and_le_l y (2 ^ t - 1))

  -- ---- so the count is made of two halves, down to the bit itself, where the upper half is the lower one XORed with the rest of a
  module _ (r : ℕ) (h : r < 2 ^ t) where
    abbrev lower : ℕ → (ℕ → Bool) → ℕ
    lower k p = count_below (2 ^ k) (λ y. p (lower_input (2 ^ t) y))

    abbrev Twice : ℕ → Type 0
    Twice k = (p : ℕ → Bool) → SameInPairs (suc k) (2 ^ t + r) p → count_below (2 ^ suc k) p ≡ 2 * lower k p

    twice_at : Twice t
    twice_at p s =
        let low : lower t p ≡ count_below (2 ^ t) p = count_cong (2 ^ t) _ _ (λ y l. ap p (input_low y l)) in
        let high : count_below (2 ^ t) (λ x. p (2 ^ t + x)) ≡ count_below (2 ^ t) p =
        count_cong (2 ^ t) _ _ (λ x l. sym (s (2 ^ t + x) (upper_lt t x l)) ∙ ap p (xor_11 t x r l h)) ∙ count_shift t r h p in
        omega (arith, count_halves t p)

    twice_above : (k : ℕ) → t ≤ k → Twice k → Twice (suc k)
    twice_above k g ih p s =
        let below : 2 ^ t + r < 2 ^ suc k = omega (arith, two-pow-succ t, pow_mono {i = suc t} {j = suc k} (omega arith)) in
        let low = ih p (λ x l. s x (lower_lt (suc k) x l)) in
        let high = ih (λ x. p (2 ^ suc k + x)) (λ x l. ap p (sym (xor_10 (suc k) x (2 ^ t + r) l below)) ∙ s (2 ^ suc k + x) (upper_lt (suc k) x l)) in
        let moved : count_below (2 ^ k) (λ y. p (lower_input (2 ^ t) (2 ^ k + y))) ≡ lower k (λ x. p (2 ^ suc k + x)) =
        count_cong (2 ^ k) _ _ (λ y l. ap p (input_high k y g)) in
        omega (arith, count_halves (suc k) p, count_halves k (λ y. p (lower_input (2 ^ t) y)))

    twice : (k : ℕ) → t ≤ k → Twice k
    twice zero g = subst Twice (let z : t ≡ 0 = omega arith in z) twice_at
    twice (suc k) g = pick (dec_le t k) (λ l. twice k l)
      where
        pick : Dec (t ≤ k) → (t ≤ k → Twice k) → Twice (suc k)
        pick (yes l) ih = twice_above k l (ih l)
        pick (no l) ih = subst Twice (let z : t ≡ suc k = omega arith in z) twice_at

-- the inputs of k + 1 bits, and a difference among them
count_twice : (k a top : ℕ) → HighestBit a top → a < 2 ^ suc k → (p : ℕ → Bool) → SameInPairs (suc k) a p
    → count_below (2 ^ suc k) p ≡ 2 * count_below (2 ^ k) (λ y. p (lower_input top y))
count_twice k a top b l p s =
    let t = b.place in
    let split : 2 ^ t + (a - 2 ^ t) ≡ a = omega (arith, b.power, b.low) in
    let counted = twice t (a - 2 ^ t) (omega (arith, b.power, b.low, b.high)) k (within (dec_le t k)) p (rw split s) in
    counted ∙ ap (λ (z : ℕ). 2 * count_below (2 ^ k) (λ y. p (lower_input z y))) (sym b.power)
  where
    within : Dec (b.place ≤ k) → b.place ≤ k
    within (yes h) = h
    within (no h) = absurd (omega (arith, b.power, b.low, pow_mono {i = suc k} {j = b.place} (omega arith)))

-- the two inputs of a pair have the same output difference
pub difference_same : (rows : List ℕ) (a x : ℕ) → difference rows a (bit_xor x a) ≡ difference rows a x
unfolding difference
difference_same rows a x = ap (λ (z : ℕ). bit_xor (at rows (bit_xor x a)) (at rows z)) (xor_cancel x a) ∙ xor_comm (at rows (bit_xor x a)) (at rows x)

-- ---- the pairs of a box
module _ {n m : ℕ} {rows : List ℕ} (b : Box n m rows) {a : ℕ} {pairs : List ℕ} (p : Paired rows a pairs) where
  pub pairs_length : length pairs ≡ 2 ^ (n - 1)
  unfolding pair_differences
  pairs_length =
      ap length p.held ∙ length_list_below (length rows / 2) (λ y. difference rows a (lower_input p.top y))
      ∙ omega (arith, b.size, two-pow-succ (n - 1), ap (λ (k : ℕ). 2 ^ k) (let z : n ≡ suc (n - 1) = omega (arith, b.n_low) in z))

  pub pair_is : (y : ℕ) → y < length pairs → at pairs y ≡ difference rows a (lower_input p.top y)
  unfolding pair_differences
  pair_is y l =
      ap (λ (z : List ℕ). at z y) p.held
      ∙ get_or_list_below (length rows / 2) (λ y. difference rows a (lower_input p.top y)) y 0
      (omega (arith, ap length p.held, length_list_below (length rows / 2) (λ y. difference rows a (lower_input p.top y))))

  pub pair_small : (y : ℕ) → y < length pairs → at pairs y < 2 ^ m
  unfolding difference
  pair_small y l =
      let x = lower_input p.top y in
      rw (pair_is y l) (xor_lt m (at rows x) (at rows (bit_xor x a)) (b.below x) (b.below (bit_xor x a)))

  -- a cell's count is twice its count among the pairs
  pub cell_twice : a < 2 ^ n → (β : ℕ) → cell n rows a β ≡ 2 * occurrences pairs (length pairs) β
  unfolding cell occurrences
  cell_twice l β =
      let e : n ≡ suc (n - 1) = omega (arith, b.n_low) in
      ap (λ (k : ℕ). count_below (2 ^ k) (λ x. eqb (difference rows a x) β)) e
      ∙ count_twice (n - 1) a p.top p.highest (rw e at l) (λ x. eqb (difference rows a x) β) (λ x l. ap (λ (v : ℕ). eqb v β) (difference_same rows a x))
      ∙ ap (λ (k : ℕ). 2 * k) (sym (ap (λ (k : ℕ). count_below k (λ y. eqb (at pairs y) β)) pairs_length
      ∙ count_cong (2 ^ (n - 1)) _ _ (λ y l. ap (λ (v : ℕ). eqb v β) (pair_is y (omega (arith, pairs_length))))))
