-- The normal form's recursion above width 0: what each call on a half is lent, and what the XOR of the lower half then has made.
use mathlib.Core.Path.{◌≡◌, sym, ap, ap₂, ◌∙◌, subst}
use mathlib.Core.List.{List, ◌++◌}
use Prim.Native.Nat.{ℕ, suc, ◌+◌, ◌-◌, ◌/◌, ◌^◌}
use native.Mathlib.Omega.{arith}
use lib.Arith.{lt-one}
use lib.Bits.{bit_xor}
use lib.ListN.{length, take, drop}
use borrow.Rule.Slice.PartMut.{put_mid}
use Rattle.boolean.specs.Sums.{list_below}
use Rattle.boolean.specs.Functions.{at, coefficient, normal_form}
use Rattle.boolean.proofs.Lists.{list_is}
use Rattle.boolean.proofs.NormalForm.{coefficient_cong, coefficient_low, coefficient_high, coefficient_zero}
use Rattle.boolean.proofs.Halves as halves
use Rattle.algebraic.specs.Work.{HalvesAdded}

module _ (n : ℕ) (values : List ℕ) (given : length values ≡ 2 ^ n) (nz : n ≡ 0 → ⊥) where
  abbrev h : ℕ
  h = length values / 2

  is_suc : n ≡ suc (n - 1)
  is_suc = omega arith

  size : length values ≡ 2 ^ suc (n - 1)
  size = given ∙ ap (λ (k : ℕ). 2 ^ k) is_suc

  half : h ≡ 2 ^ (n - 1)
  half = halves.half_is (n - 1) values size

  room : length values ≡ h + h
  room = halves.two_halves (n - 1) values size

  abbrev lower : ℕ → ℕ
  lower u = coefficient (n - 1) (at (take h values)) u

  abbrev upper : ℕ → ℕ
  upper u = coefficient (n - 1) (at (drop h values)) u

  pub lower_length : h ≡ length (take h values)
  lower_length = sym (halves.lower_length (n - 1) values size)

  pub lower_size : length (take h values) ≡ 2 ^ (n - 1)
  lower_size = sym lower_length ∙ half

  -- the lower half came back
  module _ (l₁ : List ℕ) (e₁ : l₁ ≡ normal_form (n - 1) (at (take h values))) where
    as_lower : l₁ ≡ list_below h lower
    unfolding normal_form
    as_lower = e₁ ∙ ap (λ (k : ℕ). list_below k lower) (sym half)

    abbrev after_lower : List ℕ
    after_lower = l₁ ++ drop h values

    abbrev lent : List ℕ
    lent = take (length after_lower - h) (drop h after_lower)

    lent_is : lent ≡ drop h values
    lent_is = halves.upper_kept h values room lower l₁ as_lower

    pub upper_size : length lent ≡ 2 ^ (n - 1)
    upper_size = ap length lent_is ∙ halves.upper_length (n - 1) values size ∙ half

    -- and the upper
    module _ (l₂ : List ℕ) (e₂ : l₂ ≡ normal_form (n - 1) (at lent)) where
      as_upper : l₂ ≡ list_below h upper
      unfolding normal_form
      as_upper = e₂ ∙ ap₂ (λ (k : ℕ) (l : List ℕ). list_below k (λ u. coefficient (n - 1) (at l) u)) (sym half) lent_is

      abbrev after_upper : List ℕ
      after_upper = put_mid h (length after_lower - h) after_lower l₂

      pub two_halves : length after_upper ≡ h + h
      two_halves = halves.length_after_upper h values room lower l₁ as_lower upper l₂ as_upper

      pub same_long : length after_upper ≡ length values
      same_long = two_halves ∙ sym room

      lower_is : (u : ℕ) → coefficient (n - 1) (at values) u ≡ lower u
      lower_is u = coefficient_cong (n - 1) _ _ u (λ x lt. halves.lower_entry 0 h values x (omega (arith, half)))

      upper_is : (u : ℕ) → coefficient (n - 1) (λ x. at values (2 ^ (n - 1) + x)) u ≡ upper u
      upper_is u = coefficient_cong (n - 1) _ _ u (λ x lt. halves.upper_entry 0 h values x (2 ^ (n - 1)) half)

      pub right : (new : List ℕ) → length new ≡ length after_upper → HalvesAdded h after_upper new → new ≡ normal_form n (at values)
      unfolding normal_form
      right new kept added =
          halves.halves_are 0 h (λ u. coefficient (suc (n - 1)) (at values) u) new (kept ∙ two_halves)
          (λ k lt.
          added.kept k lt ∙ halves.at_lower h values room lower l₁ as_lower upper l₂ as_upper 0 k lt
          ∙ sym (coefficient_low (n - 1) (at values) k (omega (arith, half)) ∙ lower_is k))
          (λ k lt.
          added.sums k lt
          ∙ ap₂ bit_xor (halves.at_lower h values room lower l₁ as_lower upper l₂ as_upper 0 k lt) (halves.at_upper h values room lower l₁ as_lower upper l₂ as_upper 0 k lt)
          ∙ sym (ap (λ (j : ℕ). coefficient (suc (n - 1)) (at values) (j + k)) half ∙ coefficient_high (n - 1) (at values) k (omega (arith, half)) ∙ ap₂ bit_xor (lower_is k) (upper_is k)))
          ∙ ap₂ (λ (j k : ℕ). list_below j (λ u. coefficient k (at values) u)) (sym room ∙ given) (sym is_suc)

-- at width 0 there is one value, and it stays
pub one_value : (n : ℕ) (values : List ℕ) → length values ≡ 2 ^ n → n ≡ 0 → values ≡ normal_form n (at values)
unfolding normal_form
one_value n values size e = subst (λ (k : ℕ). length values ≡ 2 ^ k → values ≡ list_below (2 ^ k) (λ u. coefficient k (at values) u)) (sym e) one size
  where
    one : length values ≡ 2 ^ 0 → values ≡ list_below (2 ^ 0) (λ u. coefficient 0 (at values) u)
    one long = list_is 0 (2 ^ 0) (λ u. coefficient 0 (at values) u) values long
        (λ i lt. subst (λ (j : ℕ). at values j ≡ coefficient 0 (at values) j) (sym (lt-one lt)) (sym (coefficient_zero (at values))))
