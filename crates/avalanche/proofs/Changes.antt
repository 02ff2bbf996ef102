-- The list of changes: which it has, that they stand in the order of c, fewest ones first, then s, and that (1, 1) is the first.
use mathlib.Core.Path.{◌≡◌, refl, ap, ◌∙◌}
use mathlib.Core.List.Memᴰ
use mathlib.Core.List.{List, [], ◌∷◌, ◌++◌, Memᴰ}
use Prim.Native.Nat.{ℕ, suc, ◌+◌, ◌*◌, ◌^◌, ◌<◌, ◌≤◌}
use native.Mathlib.Nat.{suc-mul}
use native.Mathlib.Omega.{arith}
use lib.Pow.{pow_pos}
use Rattle.boolean.specs.Sums.{each}
use Rattle.boolean.specs.Functions.{MaskWithin, components, mask_rank}
use Rattle.boolean.specs.Selection.{Candidate, Ascending}
use Rattle.boolean.proofs.Lists.{some_member, mem_each, in_each, ascending_each, ascending_blocks}
use Rattle.boolean.proofs.Kept.{each_cong_on}
use Rattle.boolean.proofs.Components.{mem_masks_below, in_masks_below, ascending_masks_below, first_masks_below, mem_components, in_components, ascending_components, first_component, first_mask}
use Rattle.avalanche.specs.Avalanche.{shifts, at_most, measured, change, changes_of}
use Rattle.avalanche.specs.Statements.{change_rank}

-- ---- the changes of at most j inputs, in ascending order
module _ (n j : ℕ) where
  mem_shifts : (s : ℕ) → Memᴰ s (at_most j (shifts n)) → MaskWithin j (2 ^ n) s
  unfolding at_most shifts
  mem_shifts = mem_masks_below j (2 ^ n) (pow_pos n)

  in_shifts : (s : ℕ) → MaskWithin j (2 ^ n) s → Memᴰ s (at_most j (shifts n))
  unfolding at_most shifts
  in_shifts = in_masks_below j (2 ^ n) (pow_pos n)

  ascending_shifts : Ascending (λ s. s) (at_most j (shifts n))
  unfolding at_most shifts
  ascending_shifts = ascending_masks_below j (2 ^ n)

  -- 1 is the first
  shifts_first : 1 ≤ n → 1 ≤ j → (rest : List ℕ) × (at_most j (shifts n) ≡ 1 ∷ rest)
  unfolding at_most shifts
  shifts_first = first_masks_below j n

-- ---- the changes of one component
module _ (n j : ℕ) (figure : ℕ → ℕ → ℕ) (c : ℕ) where
  pub in_changes_of : (s : ℕ) → MaskWithin j (2 ^ n) s → Memᴰ (change figure c s) (changes_of n j figure c)
  unfolding changes_of
  in_changes_of s h = in_each (at_most j (shifts n)) (λ s. change figure c s ∷ []) s (change figure c s) (in_shifts n j s h) (Memᴰ.head refl)

  pub mem_changes_of : (p : Candidate) → Memᴰ p (changes_of n j figure c) → (s : ℕ) × MaskWithin j (2 ^ n) s × (p ≡ change figure c s)
  unfolding changes_of
  mem_changes_of p h =
      let t = mem_each (at_most j (shifts n)) (λ s. change figure c s ∷ []) p h in
      (t.0, mem_shifts n j t.0 t.1, Memᴰ.eq_of_singleton t.2)

  pub ascending_changes_of : (m : ℕ) → Ascending (change_rank n m) (changes_of n j figure c)
  unfolding changes_of
  ascending_changes_of m =
      ascending_each (λ s. s) (change_rank n m) (at_most j (shifts n)) (λ s. change figure c s ∷ []) (ascending_shifts n j)
      (λ s k. (λ d h. absurd (Memᴰ.not-nil h), tt))
      (λ s t k h l p q u v. omega (arith, ap (change_rank n m) (Memᴰ.eq_of_singleton u), ap (change_rank n m) (Memᴰ.eq_of_singleton v)))

  -- with an input there is one
  pub changes_of_some : 1 ≤ n → 1 ≤ j → (p : Candidate) × (ps : List Candidate) × (changes_of n j figure c ≡ p ∷ ps)
  changes_of_some ln lj = some_member (changes_of n j figure c) (in_changes_of 1 (first_mask n j ln lj))

  -- and (c, 1) is the first
  pub changes_of_first : 1 ≤ n → 1 ≤ j → (rest : List Candidate) × (changes_of n j figure c ≡ change figure c 1 ∷ rest)
  unfolding changes_of each
  changes_of_first ln lj =
      let ss = shifts_first n j ln lj in
      (each ss.0 (λ s. change figure c s ∷ []), ap (λ (l : List ℕ). each l (λ s. change figure c s ∷ [])) ss.1)

-- ---- the changes of components in their order
pub ascending_over : (n m j : ℕ) (figure : ℕ → ℕ → ℕ) (cs : List ℕ) → Ascending (mask_rank m) cs
    → Ascending (change_rank n m) (each cs (changes_of n j figure))
ascending_over n m j figure cs rises =
    ascending_blocks 0 (2 ^ n) (mask_rank m) (change_rank n m) cs (changes_of n j figure) rises
    (λ c k. ascending_changes_of n j figure c m) (λ c k p h. inside c p (mem_changes_of n j figure c p h))
  where
    inside : (c : ℕ) (p : Candidate) → (s : ℕ) × MaskWithin j (2 ^ n) s × (p ≡ change figure c s)
        → (0 + mask_rank m c * 2 ^ n ≤ change_rank n m p) × (change_rank n m p < 0 + suc (mask_rank m c) * 2 ^ n)
    inside c p t = omega (arith, ap (change_rank n m) t.2, t.1.high, suc-mul (mask_rank m c) (2 ^ n))

-- ---- all changes
module _ (n m i j : ℕ) (figure : ℕ → ℕ → ℕ) where
  pub measured_is : measured n m i j figure ≡ each (components m i) (changes_of n j figure)
  unfolding measured changes_of
  measured_is = refl

  pub in_measured : (c s : ℕ) → MaskWithin i (2 ^ m) c → MaskWithin j (2 ^ n) s → Memᴰ (change figure c s) (measured n m i j figure)
  unfolding measured changes_of
  in_measured c s hc hs = in_each (components m i) (changes_of n j figure) c (change figure c s) (in_components m i c hc) (in_changes_of n j figure c s hs)

  pub mem_measured : (p : Candidate) → Memᴰ p (measured n m i j figure) → (c s : ℕ) × MaskWithin i (2 ^ m) c × MaskWithin j (2 ^ n) s × (p ≡ change figure c s)
  unfolding measured changes_of
  mem_measured p h =
      let t = mem_each (components m i) (changes_of n j figure) p h in
      let u = mem_changes_of n j figure t.0 p t.2 in
      (t.0, u.0, mem_components m i t.0 t.1, u.1, u.2)

  pub ascending_measured : Ascending (change_rank n m) (measured n m i j figure)
  unfolding measured changes_of
  ascending_measured = ascending_over n m j figure (components m i) (ascending_components m i)

  -- (1, 1) is the first
  pub measured_first : 1 ≤ n → 1 ≤ m → 1 ≤ i → 1 ≤ j → (rest : List Candidate) × (measured n m i j figure ≡ change figure 1 1 ∷ rest)
  unfolding measured changes_of each
  measured_first ln lm li lj =
      let cs = first_component m i lm li in
      let ps = changes_of_first n j figure 1 ln lj in (
        ps.0 ++ each cs.0 (changes_of n j figure),
        ap (λ (l : List ℕ). each l (changes_of n j figure)) cs.1 ∙ ap (λ (l : List Candidate). l ++ each cs.0 (changes_of n j figure)) ps.1,
      )

  -- figures that are equal within the limits make equal lists
  pub measured_cong : (other : ℕ → ℕ → ℕ) → ((c s : ℕ) → MaskWithin i (2 ^ m) c → MaskWithin j (2 ^ n) s → figure c s ≡ other c s) → measured n m i j figure ≡ measured n m i j other
  unfolding measured
  measured_cong other h =
      each_cong_on (components m i) _ _ (λ c k. each_cong_on (at_most j (shifts n)) _ _
      (λ s l. ap (λ (v : ℕ). record { figure = v; witness = c ∷ s ∷ [] } ∷ []) (h c s (mem_components m i c k) (mem_shifts n j s l))))
