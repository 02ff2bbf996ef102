-- A list of integers is the spectrum of a function exactly when its transform is 2^(n−1) or −2^(n−1) everywhere; and of one function only.
use mathlib.Core.Path.{◌≡◌, refl, sym, ap, ◌∙◌, subst}
use mathlib.Core.Bool.{Bool, true, false, true≢false}
use mathlib.Core.Logic.{◌↔◌}
use mathlib.Core.List.{List, [], ◌∷◌}
use Prim.Native.Nat.{ℕ, ◌-◌, ◌^◌, ◌<◌, ◌≤◌}
use lib.Dec.{T}
use lib.ListN.{length}
use lib.Pow.{pow_pos}
use lib.IntN.{ℤ, pos, negsuc, nat_abs}
use borrow.Author.Tests.{eq-eqb}
use Rattle.boolean.specs.Functions.{Boolean, value_at, approximation, spectrum, sign_bit, transform, inverse, same_value, same_values, is_spectrum}
use Rattle.boolean.proofs.Cases.{same_value_lem}
use Rattle.boolean.proofs.Every.{both, both_true}
use Rattle.boolean.proofs.Lists.{list_is, length_list_below, get_or_list_below}
use Rattle.boolean.proofs.Sizes.{abs_cases, cases_abs}
use Rattle.boolean.proofs.Transform.{transform_cong}
use Rattle.boolean.proofs.Spectrum.{sign_bit_of, sign_bit_lt}
use Rattle.boolean.proofs.Approximations.{approximation_le, approximation_inversion, spectrum_back, spectrum_forth}

-- ---- the test of two lists
true_T : {b : Bool} → b ≡ true → T b
true_T e = subst T (sym e) tt

same_value_refl : (z : ℤ) → same_value z z ≡ true
same_value_refl (pos a) = eq-eqb a a refl
same_value_refl (negsuc a) = eq-eqb a a refl

pub same_values_refl : (us : List ℤ) → same_values us us ≡ true
same_values_refl [] = refl
same_values_refl (u ∷ us) = both_true (same_value u u) (same_values us us) (same_value_refl u) (same_values_refl us)

pub same_values_lem : (us vs : List ℤ) → same_values us vs ≡ true → us ≡ vs
same_values_lem [] [] e = refl
same_values_lem [] (v ∷ vs) e = cc
same_values_lem (u ∷ us) [] e = cc
same_values_lem (u ∷ us) (v ∷ vs) e =
    let p = both (same_value u v) (same_values us vs) e in
    let head : u ≡ v = same_value_lem u v (true_T p.0) in
    let tail : us ≡ vs = same_values_lem us vs p.1 in
    cc

pub inverse_boolean : (n : ℕ) (F : ℕ → ℤ) → Boolean n (inverse n F)
unfolding inverse
inverse_boolean n F x l = sign_bit_lt (transform n F x)

module _ (n : ℕ) (values : List ℤ) where
  -- what a function that has the values says of them: there are 2^n, each its linear approximation value
  spectrum_length : (f : ℕ → ℕ) → spectrum n f ≡ values → length values ≡ 2 ^ n
  unfolding spectrum
  spectrum_length f has = ap length (sym has) ∙ length_list_below (2 ^ n) (approximation n f)

  spectrum_value : (f : ℕ → ℕ) → spectrum n f ≡ values → (w : ℕ) → w < 2 ^ n → value_at values w ≡ approximation n f w
  unfolding spectrum
  spectrum_value f has w l = ap (λ (vs : List ℤ). value_at vs w) (sym has) ∙ get_or_list_below (2 ^ n) (approximation n f) w (pos 0) l

  -- where the test holds the inverse has them
  inverse_has : is_spectrum n values ≡ true → spectrum n (inverse n (value_at values)) ≡ values
  unfolding is_spectrum
  inverse_has = same_values_lem (spectrum n (inverse n (value_at values))) values

module _ (n : ℕ) (values : List ℤ) (low : 1 ≤ n) (size : length values ≡ 2 ^ n) where
  -- the values of f, if it has them, show f
  pub inverse_is : (f : ℕ → ℕ) → Boolean n f → ((w : ℕ) → w < 2 ^ n → approximation n f w ≡ value_at values w)
      → (x : ℕ) → x < 2 ^ n → inverse n (value_at values) x ≡ f x
  unfolding inverse
  inverse_is f bits has x l =
      ap sign_bit (transform_cong n _ _ x (λ w k. sym (has w k)) ∙ approximation_inversion n low f bits x l) ∙ sign_bit_of (2 ^ (n - 1)) (f x) (pow_pos (n - 1)) (bits x l)

  listed : ((w : ℕ) → w < 2 ^ n → value_at values w ≡ approximation n (inverse n (value_at values)) w) → is_spectrum n values ≡ true
  unfolding is_spectrum spectrum
  listed h =
      ap (λ (l : List ℤ). same_values l values) (sym (list_is (pos 0) (2 ^ n) (λ w. approximation n (inverse n (value_at values)) w) values size h))
      ∙ same_values_refl values

  pub has_values : is_spectrum n values ≡ true → (w : ℕ) → w < 2 ^ n → approximation n (inverse n (value_at values)) w ≡ value_at values w
  has_values e w l = sym (spectrum_value n values (inverse n (value_at values)) (inverse_has n values e) w l)

  pub full_is_spectrum : ((x : ℕ) → x < 2 ^ n → nat_abs (transform n (value_at values) x) ≡ 2 ^ (n - 1)) → is_spectrum n values ≡ true
  full_is_spectrum full =
      listed (spectrum_back n low (value_at values) (λ x l. abs_cases (transform n (value_at values) x) (2 ^ (n - 1)) (full x l)))

  pub is_spectrum_full : is_spectrum n values ≡ true → (x : ℕ) → x < 2 ^ n → nat_abs (transform n (value_at values) x) ≡ 2 ^ (n - 1)
  is_spectrum_full e x l =
      cases_abs (transform n (value_at values) x) (2 ^ (n - 1))
      (spectrum_forth n low (value_at values) (inverse n (value_at values)) (inverse_boolean n (value_at values)) (λ w k. sym (has_values e w k)) x l)

  pub is_spectrum_small : is_spectrum n values ≡ true → (w : ℕ) → w < 2 ^ n → nat_abs (value_at values w) ≤ 2 ^ (n - 1)
  is_spectrum_small e w l = subst (λ (z : ℤ). nat_abs z ≤ 2 ^ (n - 1)) (has_values e w l) (approximation_le n low (inverse n (value_at values)) w)

module _ (n : ℕ) (values : List ℤ) (low : 1 ≤ n) where
  -- a function that has the values passes the test
  has_function : (f : ℕ → ℕ) → Boolean n f → spectrum n f ≡ values → is_spectrum n values ≡ true
  has_function f bits has =
      full_is_spectrum n values low (spectrum_length n values f has)
      (λ x l. cases_abs (transform n (value_at values) x) (2 ^ (n - 1)) (spectrum_forth n low (value_at values) f bits (spectrum_value n values f has) x l))

  -- "A spectrum is turned back into its function, and refused exactly when no function has it." It holds of any list; one of another length than
  -- 2^n is no function's spectrum.
  pub no_function : is_spectrum n values ≡ false ↔ ((f : ℕ → ℕ) → Boolean n f → spectrum n f ≡ values → ⊥)
  no_function = (
    λ e f bits has. true≢false (sym (has_function f bits has) ∙ e),
    λ none. fails none (is_spectrum n values) refl,
  )
    where
      fails : ((f : ℕ → ℕ) → Boolean n f → spectrum n f ≡ values → ⊥) → (t : Bool) → is_spectrum n values ≡ t → is_spectrum n values ≡ false
      fails none true e = absurd (none (inverse n (value_at values)) (inverse_boolean n (value_at values)) (inverse_has n values e))
      fails none false e = e
