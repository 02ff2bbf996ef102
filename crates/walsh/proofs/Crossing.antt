-- Two halves of integers before and after the butterfly. Assumes nothing.
use mathlib.Core.Path.{◌≡◌, sym, ap₂, ◌∙◌, subst}
use mathlib.Core.List.{List}
use Prim.Native.Nat.{ℕ, ◌+◌, ◌-◌, ◌≤◌, ◌<◌}
use native.Mathlib.Decide.{dec_lt}
use native.Mathlib.Omega.{arith}
use lib.ListN.{length, get_or-eq_default}
use lib.IntN.{ℤ, pos, ◌+ℤ◌, ◌-ℤ◌, nat_abs}
use Rattle.boolean.specs.Sums.{list_below}
use Rattle.boolean.specs.Functions.{value_at}
use Rattle.boolean.proofs.Lists.{get_or_list_below}
use Rattle.boolean.proofs.Halves.{after_upper, length_after_upper, at_lower, at_upper, halves_are}
use Rattle.walsh.specs.Work.{Halves, Crossed}

-- the lower half was lent and came back as g₁'s values, then the upper as g₂'s
module _ (h : ℕ) (out : List ℤ) (long : length out ≡ h + h) (g₁ : ℕ → ℤ) (l₁ : List ℤ) (e₁ : l₁ ≡ list_below h g₁) (g₂ : ℕ → ℤ) (l₂ : List ℤ) (e₂ : l₂ ≡ list_below h g₂) where
  abbrev lent : List ℤ
  lent = after_upper h out long g₁ l₁ e₁ g₂ l₂ e₂

  long_lent : length lent ≡ h + h
  long_lent = length_after_upper h out long g₁ l₁ e₁ g₂ l₂ e₂

  lower_value : (k : ℕ) → k < h → value_at lent k ≡ g₁ k
  lower_value = at_lower h out long g₁ l₁ e₁ g₂ l₂ e₂ (pos 0)

  upper_value : (k : ℕ) → k < h → value_at lent (h + k) ≡ g₂ k
  upper_value = at_upper h out long g₁ l₁ e₁ g₂ l₂ e₂ (pos 0)

  -- what is shown of g₁ and of g₂ holds of every entry
  pub to_cross : (limit : ℕ) → ((k : ℕ) → k < h → nat_abs (g₁ k) ≤ limit) → ((k : ℕ) → k < h → nat_abs (g₂ k) ≤ limit) → Halves limit h lent
  to_cross limit small₁ small₂ = record { size = long_lent; small = λ k. go k (dec_lt k h) (dec_lt k (h + h)) }
    where
      go : (k : ℕ) → Dec (k < h) → Dec (k < h + h) → nat_abs (value_at lent k) ≤ limit
      go k (yes lt) d = subst (λ (z : ℤ). nat_abs z ≤ limit) (sym (lower_value k lt)) (small₁ k lt)
      go k (no ge) (yes lt) =
          let e : h + (k - h) ≡ k = omega arith in
          subst (λ (j : ℕ). nat_abs (value_at lent j) ≤ limit) e
          (subst (λ (z : ℤ). nat_abs z ≤ limit) (sym (upper_value (k - h) (omega arith))) (small₂ (k - h) (omega arith)))
      go k (no ge) (no past) =
          subst (λ (z : ℤ). nat_abs z ≤ limit) (sym (get_or-eq_default lent (pos 0) (omega (arith, long_lent)))) (omega arith)

  -- the butterfly makes the values of G of them, where the halving rule says so
  pub crossed_is : (new : List ℤ) → length new ≡ length lent → Crossed h lent new → (G : ℕ → ℤ)
      → ((k : ℕ) → k < h → G k ≡ g₁ k +ℤ g₂ k) → ((k : ℕ) → k < h → G (h + k) ≡ g₁ k -ℤ g₂ k) → new ≡ list_below (h + h) G
  crossed_is new kept crossed G low high =
      halves_are (pos 0) h G new (kept ∙ long_lent)
      (λ k lt. crossed.sums k lt ∙ ap₂ (λ (x y : ℤ). x +ℤ y) (lower_value k lt) (upper_value k lt) ∙ sym (low k lt))
      (λ k lt. crossed.differences k lt ∙ ap₂ (λ (x y : ℤ). x -ℤ y) (lower_value k lt) (upper_value k lt) ∙ sym (high k lt))

  -- and they are those of the halves crossed
  pub crosses : (G : ℕ → ℤ) → ((k : ℕ) → k < h → G k ≡ g₁ k +ℤ g₂ k) → ((k : ℕ) → k < h → G (h + k) ≡ g₁ k -ℤ g₂ k) → Crossed h lent (list_below (h + h) G)
  crosses G low high = record {
    sums = λ k lt. get_or_list_below (h + h) G k (pos 0) (omega arith) ∙ low k lt
        ∙ sym (ap₂ (λ (x y : ℤ). x +ℤ y) (lower_value k lt) (upper_value k lt));
    differences = λ k lt. get_or_list_below (h + h) G (h + k) (pos 0) (omega arith) ∙ high k lt
        ∙ sym (ap₂ (λ (x y : ℤ). x -ℤ y) (lower_value k lt) (upper_value k lt));
  }
