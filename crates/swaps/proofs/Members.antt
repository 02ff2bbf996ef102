-- Which swaps the list has: those of two inputs with unlike rows. Assumes nothing.
use mathlib.Core.Path.{◌≡◌, refl, sym, ap, ap₂, ◌∙◌}
use mathlib.Core.List.{List, Memᴰ}
use Prim.Native.Nat.{ℕ, zero, suc, ◌-◌, ◌^◌, ◌<◌, ◌≤◌}
use native.Mathlib.Omega.{arith}
use borrow.Author.Tests.{eqb-true, eq-eqb}
use lib.Bits.{bit_xor, xor_lt, xor_self, xor_zero_l}
use lib.Count.{ones, ones_in, ones-le}
use lib.Dec.{eqb}
use Rattle.boolean.specs.Functions.{at}
use Rattle.boolean.specs.Selection.{FirstIn, here, there}
use Rattle.boolean.specs.Sums.{list_from, list_below}
use Rattle.boolean.proofs.Lists.{mem_each, in_each, mem_list_from, in_list_from, in_list_below}
use Rattle.boolean.proofs.Members.{mem_if, in_if}
use Rattle.boolean.proofs.OneBit.{ones_power, power_of_ones}
use Rattle.boolean.proofs.Xor.{xor_cancel}
use Rattle.refusals.specs.Table.{Box}
use Rattle.swaps.specs.Swaps.{Swap, swap_at, swaps_from, swaps_by, swaps}
use Rattle.swaps.specs.Statements.{IsSwap, row_distance}

-- ---- numbers differ exactly where their XOR has ones
no_ones : ones 0 ≡ 0
unfolding ones ones_in
no_ones = refl

pub like_none : (a b : ℕ) → a ≡ b → ones (bit_xor a b) ≡ 0
like_none a b e = ap (λ (z : ℕ). ones (bit_xor a z)) (sym e) ∙ ap ones (xor_self a) ∙ no_ones

pub unlike_some : (k a b : ℕ) → a < 2 ^ k → b < 2 ^ k → (a ≡ b → ⊥) → 1 ≤ ones (bit_xor a b)
unlike_some k a b ha hb ne = go (ones (bit_xor a b)) refl
  where
    some : 1 ≤ bit_xor a b
    some =
        let d : ¬ (bit_xor a b ≡ 0) = λ e. ne (sym (xor_cancel a b) ∙ ap (λ (z : ℕ). bit_xor z b) e ∙ xor_zero_l b) in
        omega arith

    go : (t : ℕ) → ones (bit_xor a b) ≡ t → 1 ≤ ones (bit_xor a b)
    go zero e =
        let p = power_of_ones k (bit_xor a b) some (xor_lt k a b ha hb) (omega arith) in
        absurd (omega (arith, ap ones p.2, ones_power p.0))
    go (suc t) e = omega arith

module _ (n m : ℕ) (rows : List ℕ) where
  -- what a member is: of rows that differ in d bits, d from 1 to m
  pub mem_swaps_from : (d low : ℕ) (s : Swap) → Memᴰ s (swaps_from n rows d low) → (s.low ≡ low) × (s.low < s.high) × (s.high < 2 ^ n) × (row_distance rows s ≡ d)
  unfolding swaps_from swap_at
  mem_swaps_from d low s k =
      let t = mem_each (list_from (suc low) (2 ^ n - suc low) (λ h. h)) (swap_at rows d low) s k in
      let h = t.0 in
      let u = mem_list_from (suc low) (2 ^ n - suc low) (λ h. h) h t.1 in
      let v = mem_if (eqb (ones (bit_xor (at rows low) (at rows h))) d) (record { low = low; high = h }) s t.2 in
      let l : s.low ≡ low = ap (λ (z : Swap). z.low) v.1 in
      let g : s.high ≡ h = ap (λ (z : Swap). z.high) v.1 in (
        l,
        omega (arith, u.1, u.3),
        omega (arith, u.1, u.2, u.3),
        ap₂ (λ (a b : ℕ). ones (bit_xor (at rows a) (at rows b))) l g ∙ eqb-true _ d v.0,
      )

  pub mem_swaps_by : (d : ℕ) (s : Swap) → Memᴰ s (swaps_by n rows d) → (s.low < s.high) × (s.high < 2 ^ n) × (row_distance rows s ≡ d)
  unfolding swaps_by
  mem_swaps_by d s k =
      let t = mem_each (list_below (2 ^ n) (λ l. l)) (swaps_from n rows d) s k in
      let u = mem_swaps_from d t.0 s t.2 in
      (u.1, u.2, u.3)

  pub mem_swaps : (s : Swap) → Memᴰ s (swaps n m rows) → IsSwap n rows s
  unfolding swaps
  mem_swaps s k =
      let t = mem_each (list_from 1 m (λ d. d)) (swaps_by n rows) s k in
      let r = mem_list_from 1 m (λ d. d) t.0 t.1 in
      let u = mem_swaps_by t.0 s t.2 in
      record { ordered = u.0; inside = u.1; unlike = λ e. let z = like_none _ _ e in omega (arith, u.2, r.1, r.3) }

  -- and back
  pub in_swaps : Box n m rows → (s : Swap) → IsSwap n rows s → Memᴰ s (swaps n m rows)
  unfolding swaps swaps_by swaps_from swap_at
  in_swaps box s h =
      let d = row_distance rows s in
      let few : d ≤ m = ones-le m (bit_xor (at rows s.low) (at rows s.high)) (xor_lt m _ _ (box.below s.low) (box.below s.high)) in
      let some : 1 ≤ d = unlike_some m (at rows s.low) (at rows s.high) (box.below s.low) (box.below s.high) h.unlike in
      in_each (list_from 1 m (λ d. d)) (swaps_by n rows) d s (in_list_from 1 m (λ d. d) d some (omega arith))
      (in_each (list_below (2 ^ n) (λ l. l)) (swaps_from n rows d) s.low s (in_list_below (2 ^ n) (λ l. l) s.low (omega (arith, h.ordered, h.inside)))
      (in_each (list_from (suc s.low) (2 ^ n - suc s.low) (λ h. h)) (swap_at rows d s.low) s.high s
      (in_list_from (suc s.low) (2 ^ n - suc s.low) (λ h. h) s.high h.ordered (omega (arith, h.ordered, h.inside)))
      (in_if (eqb d d) s (eq-eqb d d refl))))

-- the first of its kind is a member
pub first_mem : {A : Type 0} {S : A → A → Type 0} {r : A} {xs : List A} → FirstIn S r xs → Memᴰ r xs
first_mem here = Memᴰ.head refl
first_mem (there s f) = Memᴰ.tail (first_mem f)
