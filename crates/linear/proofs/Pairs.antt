-- The list of pairs: which pairs it has, and that they stand in the order of c, fewest ones first, then w, then b.
use mathlib.Core.Path.{◌≡◌, refl, ap}
use mathlib.Core.Logic.{inl, inr}
use mathlib.Core.List.Memᴰ
use mathlib.Core.List.{List, [], ◌∷◌, Memᴰ}
use Prim.Native.Nat.{ℕ, suc, ◌+◌, ◌*◌, ◌^◌, ◌<◌, ◌≤◌}
use native.Mathlib.Nat.{zero-lt-suc, le_refl, mul-le-mul_right, suc-mul}
use native.Mathlib.Omega.{arith}
use lib.Pow.{pow_pos}
use Rattle.boolean.specs.Sums.{each, list_below}
use Rattle.boolean.specs.Functions.{components, mask_rank}
use Rattle.boolean.specs.Selection.{Candidate, Ascending}
use Rattle.boolean.proofs.Dots.{bit_cases}
use Rattle.boolean.proofs.Selection.{of_cons}
use Rattle.boolean.proofs.Lists.{some_member, mem_list_below, in_list_below, mem_each, in_each, ascending_list_below, ascending_blocks}
use Rattle.boolean.proofs.Components.{in_components, mem_components, ascending_components, rank_of_before, first_mask}
use Rattle.linear.specs.Nonlinearity.{pair, pairs_of, pairs}
use Rattle.linear.specs.Statements.{IsPair, PairBefore, pair_rank}

-- a box with an output has a pair
pub first_pair : (n m i : ℕ) → 1 ≤ m → 1 ≤ i → IsPair n m i 1 0 0
first_pair n m i h l = record { mask = first_mask m i h l; w_high = pow_pos n; b_high = zero-lt-suc 1 }

-- a pair before another has a lower number
pub before_rank : (n m c' w' b' c w b : ℕ) → c' < 2 ^ m → w' < 2 ^ n → b' < 2 → PairBefore c' w' b' c w b
    → mask_rank m c' * (2 * 2 ^ n) + w' * 2 + b' < mask_rank m c * (2 * 2 ^ n) + w * 2 + b
before_rank n m c' w' b' c w b hc hw hb (inl l) =
    omega (arith, suc-mul (mask_rank m c') (2 * 2 ^ n), mul-le-mul_right (2 * 2 ^ n) (rank_of_before m c' c hc l))
before_rank n m c' w' b' c w b hc hw hb (inr (inl h)) = omega (arith, ap (λ (z : ℕ). mask_rank m z * (2 * 2 ^ n)) h.0)
before_rank n m c' w' b' c w b hc hw hb (inr (inr h)) = omega (arith, ap (λ (z : ℕ). mask_rank m z * (2 * 2 ^ n)) h.0)

-- ---- the pairs of one component
module _ (n : ℕ) (rows : List ℕ) (c : ℕ) where
  -- one affine function's mask w, with b = 0 and b = 1
  abbrev both : ℕ → List Candidate
  both w = pair n rows c w 0 ∷ pair n rows c w 1 ∷ []

  abbrev Of : ℕ → Candidate → Type 0
  Of w p = (b : ℕ) × (b < 2) × (p ≡ pair n rows c w b)

  mem_both : (w : ℕ) (p : Candidate) → Memᴰ p (both w) → Of w p
  mem_both w p = of_cons (Of w) (0, zero-lt-suc 1, refl) (of_cons (Of w) (1, le_refl 2, refl) (λ m. absurd (Memᴰ.not-nil m)))

  pub in_pairs_of : (w b : ℕ) → w < 2 ^ n → b < 2 → Memᴰ (pair n rows c w b) (pairs_of n rows c)
  unfolding pairs_of
  in_pairs_of w b hw hb = in_each (list_below (2 ^ n) (λ w. w)) both w (pair n rows c w b) (in_list_below (2 ^ n) (λ w. w) w hw)
      (bit_cases (λ b. Memᴰ (pair n rows c w b) (both w)) (Memᴰ.head refl) (Memᴰ.tail (Memᴰ.head refl)) b hb)

  pub mem_pairs_of : (p : Candidate) → Memᴰ p (pairs_of n rows c) → (w b : ℕ) × (w < 2 ^ n) × (b < 2) × (p ≡ pair n rows c w b)
  unfolding pairs_of
  mem_pairs_of p m =
      let t = mem_each (list_below (2 ^ n) (λ w. w)) both p m in
      let s = mem_list_below (2 ^ n) (λ w. w) t.0 t.1 in
      let u = mem_both t.0 p t.2 in
      (t.0, u.0, omega (arith, s.1, s.2), u.1, u.2)

  -- there is one
  pub pairs_of_some : (p : Candidate) × (ps : List Candidate) × (pairs_of n rows c ≡ p ∷ ps)
  pairs_of_some = some_member (pairs_of n rows c) (in_pairs_of 0 0 (pow_pos n) (zero-lt-suc 1))

  pub ascending_pairs_of : (m : ℕ) → Ascending (pair_rank n m) (pairs_of n rows c)
  unfolding pairs_of
  ascending_pairs_of m =
      ascending_blocks start 2 (λ w. w) (pair_rank n m) (list_below (2 ^ n) (λ w. w)) both
      (ascending_list_below (λ w. w) (2 ^ n) (λ w. w) (λ a b l m. l)) (λ w k. ascending_both w) (λ w k p h. inside w p (mem_both w p h))
    where
      start : ℕ
      start = mask_rank m c * (2 * 2 ^ n)

      ascending_both : (w : ℕ) → Ascending (pair_rank n m) (both w)
      ascending_both w = (
        λ p k. of_cons (λ p. pair_rank n m (pair n rows c w 0) < pair_rank n m p) (omega arith) (λ h. absurd (Memᴰ.not-nil h)) k,
        (λ p k. absurd (Memᴰ.not-nil k), tt),
      )

      inside : (w : ℕ) (p : Candidate) → Of w p → (start + w * 2 ≤ pair_rank n m p) × (pair_rank n m p < start + suc w * 2)
      inside w p t = omega (arith, ap (pair_rank n m) t.2, t.1)

-- ---- the pairs of components in their order
pub ascending_over : (n m : ℕ) (rows cs : List ℕ) → Ascending (mask_rank m) cs → Ascending (pair_rank n m) (each cs (pairs_of n rows))
ascending_over n m rows cs rises =
    ascending_blocks 0 (2 * 2 ^ n) (mask_rank m) (pair_rank n m) cs (pairs_of n rows)
    rises (λ c k. ascending_pairs_of n rows c m) (λ c k p j. inside c p (mem_pairs_of n rows c p j))
  where
    inside : (c : ℕ) (p : Candidate) → (w b : ℕ) × (w < 2 ^ n) × (b < 2) × (p ≡ pair n rows c w b)
        → (0 + mask_rank m c * (2 * 2 ^ n) ≤ pair_rank n m p) × (pair_rank n m p < 0 + suc (mask_rank m c) * (2 * 2 ^ n))
    inside c p t = omega (arith, ap (pair_rank n m) t.4, t.2, t.3, suc-mul (mask_rank m c) (2 * 2 ^ n))

-- ---- all pairs within the limit
module _ (n m : ℕ) (rows : List ℕ) (i : ℕ) where
  pub in_pairs : (c w b : ℕ) → IsPair n m i c w b → Memᴰ (pair n rows c w b) (pairs n m rows i)
  unfolding pairs
  in_pairs c w b h =
      in_each (components m i) (pairs_of n rows) c (pair n rows c w b) (in_components m i c h.mask) (in_pairs_of n rows c w b h.w_high h.b_high)

  pub mem_pairs : (p : Candidate) → Memᴰ p (pairs n m rows i) → (c w b : ℕ) × IsPair n m i c w b × (p ≡ pair n rows c w b)
  unfolding pairs
  mem_pairs p k =
      let t = mem_each (components m i) (pairs_of n rows) p k in
      let u = mem_pairs_of n rows t.0 p t.2 in
      (t.0, u.0, u.1, record { mask = mem_components m i t.0 t.1; w_high = u.2; b_high = u.3 }, u.4)

  pub ascending_pairs : Ascending (pair_rank n m) (pairs n m rows i)
  unfolding pairs
  ascending_pairs = ascending_over n m rows (components m i) (ascending_components m i)

  pub pairs_nonempty : 1 ≤ m → 1 ≤ i → (p : Candidate) × (ps : List Candidate) × (pairs n m rows i ≡ p ∷ ps)
  pairs_nonempty h l = some_member (pairs n m rows i) (in_pairs 1 0 0 (first_pair n m i h l))
