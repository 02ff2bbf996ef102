-- The masks of components within a limit: which they are, and their order; and the same masks in ascending order, as a loop visits them. Assumes
-- nothing.
use mathlib.Core.Path.{◌≡◌, refl, sym, ap, ◌∙◌}
use mathlib.Core.Logic.{inl, inr}
use mathlib.Core.Bool.{Bool, true, false}
use mathlib.Core.List.{List, [], ◌∷◌, ◌++◌, Memᴰ}
use Prim.Native.Nat.{ℕ, zero, suc, ◌+◌, ◌*◌, ◌-◌, ◌^◌, ◌≤◌, ◌<◌}
use native.Mathlib.Nat.{add-zero, le_refl, le_trans, suc-mul, mul-le-mul_right}
use native.Mathlib.Omega.{arith}
use borrow.Author.Tests.{leb-true, le-leb, eqb-true, eq-eqb}
use lib.Count.{ones, ones_in, ones-le}
use lib.Dec.{leb, eqb}
use lib.Pow.{pow_pos, pow_mono, pow-lt}
use Rattle.boolean.specs.Sums.{list_from, each, keep}
use Rattle.boolean.specs.Functions.{MaskWithin, components, MaskBefore, mask_rank}
use Rattle.boolean.proofs.Lists.{mem_list_from, in_list_from, mem_each, in_each, ascending_list_from, ascending_each}
use Rattle.boolean.proofs.Kept.{keep_takes, keep_drops, mem_keep, in_keep, ascending_keep}
use Rattle.boolean.proofs.OneBit.{ones_one, ones_pos}
use Rattle.boolean.specs.Selection.{Ascending, SameMembers}
use Rattle.boolean.specs.Statements.{masks_below}

-- the test of the limit
abbrev pub limited : ℕ → ℕ → Bool
limited i c = leb (ones c) i

-- ---- lists of numbers, in two parts, and all or none of them kept
pub split : {A : Type 0} (i j k : ℕ) (g : ℕ → A) → list_from i (j + k) g ≡ list_from i j g ++ list_from (i + j) k g
unfolding list_from
split i zero k g =
    let none : 0 + k ≡ k = omega arith in
    ap (λ (z : ℕ). list_from i z g) none ∙ ap (λ (z : ℕ). list_from z k g) (sym (add-zero i))
split {A} i (suc j) k g =
    let more : suc j + k ≡ suc (j + k) = omega arith in
    let next : suc i + j ≡ i + suc j = omega arith in
    ap (λ (z : ℕ). list_from i z g) more ∙ ap (λ (l : List A). g i ∷ l) (split (suc i) j k g ∙ ap (λ (z : ℕ). list_from (suc i) j g ++ list_from z k g) next)

module _ (p : ℕ → Bool) where
  pub keep_none : (i k : ℕ) → ((x : ℕ) → i ≤ x → x < i + k → p x ≡ false) → keep p (list_from i k (λ c. c)) ≡ []
  unfolding keep list_from
  keep_none i zero h = refl
  keep_none i (suc k) h = keep_drops p i (list_from (suc i) k (λ c. c)) (h i (le_refl i) (omega arith)) ∙ keep_none (suc i) k (λ x l m. h x (omega arith) (omega arith))

  -- where 1 is kept it comes first
  pub first_kept : (m : ℕ) → 1 ≤ m → p 1 ≡ true → (rest : List ℕ) × (keep p (list_from 1 (2 ^ m - 1) (λ c. c)) ≡ 1 ∷ rest)
  unfolding list_from
  first_kept m low e =
      let more : 2 ^ m - 1 ≡ suc (2 ^ m - 2) = omega (arith, pow_mono {i = 1} {j = m} low) in (
        keep p (list_from 2 (2 ^ m - 2) (λ c. c)),
        ap (λ (z : ℕ). keep p (list_from 1 z (λ c. c))) more ∙ keep_takes p 1 (list_from 2 (2 ^ m - 2) (λ c. c)) e,
      )

-- ---- the masks within a limit below a bound, in ascending order
module _ (i end : ℕ) (some : 1 ≤ end) where
  pub mem_masks_below : (c : ℕ) → Memᴰ c (masks_below i end) → MaskWithin i end c
  mem_masks_below c k =
      let t = mem_keep (limited i) (list_from 1 (end - 1) (λ c. c)) c k in
      let s = mem_list_from 1 (end - 1) (λ c. c) c t.0 in
      record { low = omega (arith, s.1, s.3); high = omega (arith, s.2, s.3); few = leb-true (ones c) i t.1 }

  pub in_masks_below : (c : ℕ) → MaskWithin i end c → Memᴰ c (masks_below i end)
  in_masks_below c w =
      in_keep (limited i) (list_from 1 (end - 1) (λ c. c)) c
      (in_list_from 1 (end - 1) (λ c. c) c w.low (omega (arith, w.high))) (le-leb (ones c) i w.few)

pub ascending_masks_below : (i end : ℕ) → Ascending (λ c. c) (masks_below i end)
ascending_masks_below i end = ascending_keep (limited i) (λ c. c) (list_from 1 (end - 1) (λ c. c)) (ascending_list_from (λ c. c) 1 (end - 1) (λ c. c) (λ a b l k h. k))

-- the first of them is 1
pub first_masks_below : (i m : ℕ) → 1 ≤ m → 1 ≤ i → (rest : List ℕ) × (masks_below i (2 ^ m) ≡ 1 ∷ rest)
first_masks_below i m lm li = first_kept (limited i) m lm (le-leb (ones 1) i (omega (arith, ones_one)))

-- ---- the masks of as many ones
module _ (m : ℕ) where
  abbrev all : List ℕ
  all = list_from 1 (2 ^ m - 1) (λ c. c)

  abbrev of_ones : ℕ → List ℕ
  of_ones k = keep (λ c. eqb (ones c) k) all

  mem_of_ones : (k c : ℕ) → Memᴰ c (of_ones k) → (1 ≤ c) × (c < 2 ^ m) × (ones c ≡ k)
  mem_of_ones k c h =
      let t = mem_keep (λ c. eqb (ones c) k) all c h in
      let s = mem_list_from 1 (2 ^ m - 1) (λ c. c) c t.0 in
      (omega (arith, s.1, s.3), omega (arith, s.2, s.3, pow_pos m), eqb-true (ones c) k t.1)

  -- their ranks rise with the masks
  ascending_of_ones : (k : ℕ) → Ascending (mask_rank m) (of_ones k)
  ascending_of_ones k =
      raise (of_ones k) (λ c h. (mem_of_ones k c h).2)
      (ascending_keep (λ c. eqb (ones c) k) (λ c. c) all (ascending_list_from (λ c. c) 1 (2 ^ m - 1) (λ c. c) (λ a b l h g. h)))
    where
      raise : (cs : List ℕ) → ((c : ℕ) → Memᴰ c cs → ones c ≡ k) → Ascending (λ c. c) cs → Ascending (mask_rank m) cs
      raise [] same a = tt
      raise (c ∷ cs) same a = (
        λ d h.
            let p = ap (λ (z : ℕ). z * 2 ^ m) (same c (Memᴰ.head refl)) in
            let q = ap (λ (z : ℕ). z * 2 ^ m) (same d (Memᴰ.tail h)) in
            omega (arith, p, q, a.0 d h),
        raise cs (λ d h. same d (Memᴰ.tail h)) a.1,
      )

  -- a mask before another has a lower rank
  pub rank_of_before : (c' c : ℕ) → c' < 2 ^ m → MaskBefore c' c → mask_rank m c' < mask_rank m c
  rank_of_before c' c h (inl l) = omega (arith, mul-le-mul_right (2 ^ m) l, suc-mul (ones c') (2 ^ m))
  rank_of_before c' c h (inr l) = omega (arith, ap (λ (z : ℕ). z * 2 ^ m) l.0, l.1)

-- ---- the two laws of the masks: which they are, and their order
pub mem_components : (m i c : ℕ) → Memᴰ c (components m i) → MaskWithin i (2 ^ m) c
unfolding components
mem_components m i c h =
    let t = mem_each (list_from 1 i (λ k. k)) (of_ones m) c h in
    let k = mem_list_from 1 i (λ k. k) t.0 t.1 in
    let u = mem_of_ones m t.0 c t.2 in
    record { low = u.0; high = u.1; few = omega (arith, u.2, k.2, k.3) }

pub in_components : (m i c : ℕ) → MaskWithin i (2 ^ m) c → Memᴰ c (components m i)
unfolding components
in_components m i c w =
    in_each (list_from 1 i (λ k. k)) (of_ones m) (ones c) c (in_list_from 1 i (λ k. k) (ones c) (ones_pos c w.low) (omega (arith, w.few)))
    (in_keep (λ d. eqb (ones d) (ones c)) (all m) c (in_list_from 1 (2 ^ m - 1) (λ c. c) c w.low (omega (arith, w.high))) (eq-eqb (ones c) (ones c) refl))

-- by their ones, then by their value: `mask_rank` rises
pub ascending_components : (m i : ℕ) → Ascending (mask_rank m) (components m i)
unfolding components
ascending_components m i =
    ascending_each (λ k. k) (mask_rank m) (list_from 1 i (λ k. k)) (of_ones m) (ascending_list_from (λ k. k) 1 i (λ k. k) (λ a b l h g. h))
    (λ k h. ascending_of_ones m k)
    (λ j k p q l c d g h.
    let u = mem_of_ones m j c g in
    rank_of_before m c d u.1 (inl (omega (arith, u.2, (mem_of_ones m k d h).2))))

-- Document 02: "So c = 4 is preferred to c = 3."
pub components_of_three : components 3 3 ≡ 1 ∷ 2 ∷ 4 ∷ 3 ∷ 5 ∷ 6 ∷ 7 ∷ []
unfolding components each keep list_from ones ones_in
components_of_three = refl

-- the first of them is 1
pub first_component : (m i : ℕ) → 1 ≤ m → 1 ≤ i → (rest : List ℕ) × (components m i ≡ 1 ∷ rest)
unfolding components each list_from
first_component m i lm li =
    let more : i ≡ suc (i - 1) = omega arith in
    let ones_first = first_kept (λ c. eqb (ones c) 1) m lm (eq-eqb (ones 1) 1 ones_one) in (
      ones_first.0 ++ each (list_from 2 (i - 1) (λ k. k)) (of_ones m),
      ap (λ (z : ℕ). each (list_from 1 z (λ k. k)) (of_ones m)) more
          ∙ ap (λ (l : List ℕ). l ++ each (list_from 2 (i - 1) (λ k. k)) (of_ones m)) ones_first.1,
    )

-- the same masks in ascending order
pub same_masks : (m i : ℕ) → SameMembers (masks_below i (2 ^ m)) (components m i)
same_masks m i c = (λ h. in_components m i c (mem_masks_below i (2 ^ m) (pow_pos m) c h), λ h. in_masks_below i (2 ^ m) (pow_pos m) c (mem_components m i c h))

pub whole_within : (m c : ℕ) → 1 ≤ c → c < 2 ^ m → MaskWithin m (2 ^ m) c
whole_within m c l h = record { low = l; high = h; few = ones-le m c h }

-- a wider limit takes what a narrower one takes
pub within_more : {i j end c : ℕ} → i ≤ j → MaskWithin i end c → MaskWithin j end c
within_more l w = record { low = w.low; high = w.high; few = le_trans w.few l }

-- the mask 1 is always one of them
pub first_mask : (m i : ℕ) → 1 ≤ m → 1 ≤ i → MaskWithin i (2 ^ m) 1
first_mask m i h l = record { low = le_refl 1; high = pow-lt h; few = omega (arith, ones_one) }
