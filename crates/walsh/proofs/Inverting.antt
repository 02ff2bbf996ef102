-- The inverse call's tests, against the condition that a function has the values. Assumes nothing.
use Rattle.std.specs.Prelude.{Ok, Err}
use mathlib.Core.Path.{◌≡◌, refl, sym, ap, ◌∙◌, subst}
use mathlib.Core.Bool.{Bool, true, false}
use mathlib.Core.List.{List}
use Prim.Native.Nat.{ℕ, ◌-◌, ◌^◌, ◌≤◌, ◌<◌}
use native.Mathlib.Nat.{le_trans, le_of_eq, mul-le-mul}
use native.Mathlib.Decide.{dec_lt}
use native.Mathlib.Omega.{arith}
use borrow.Author.Tests.{eq-eqb, eqb-true, le-leb, leb-true}
use lib.Dec.{eqb, leb, lit≤}
use lib.IntN.{ℤ, pos, nat_abs}
use lib.ListN.{length, take, get_or-eq_default}
use lib.Seq.{length-take-le}
use lib.Pow.{pow_mono}
use Rattle.boolean.specs.Sums.{every, list_below}
use Rattle.boolean.specs.Functions.{value_at, transform, sign_bit, inverse, is_spectrum}
use Rattle.boolean.proofs.Every.{every_at, every_of}
use Rattle.boolean.proofs.Inverse.{full_is_spectrum, is_spectrum_full, is_spectrum_small}
use Rattle.boolean.proofs.Lists.{length_list_below, get_or_list_below, list_below_cong}
use Rattle.refusals.specs.Table.{first}
use Rattle.refusals.specs.declared.Refusal.TheVariants.{NoFunction}
use Rattle.refusals.proofs.Bounds.{range_low, range_high}
use Rattle.refusals.proofs.Checks.{found, skip, stop, end, Passed, passed, first_append}
use Rattle.walsh.specs.Calls.{inverse_lengths, function_check, inverse_checks}
use Rattle.walsh.specs.Work.{Invertible, Summable}

-- two tests that hold together are one
pub same_test : (a b : Bool) → (a ≡ true → b ≡ true) → (b ≡ true → a ≡ true) → a ≡ b
same_test true b f g = sym (f refl)
same_test false true f g = g refl
same_test false false f g = refl

-- what the last line of the inverse call's checks gives
pub no_function_found : (n : ℕ) (values : List ℤ) → is_spectrum n values ≡ false → first (function_check n values) ≡ Err NoFunction
unfolding function_check
no_function_found n values e = sym (found (stop e))

pub function_found : (n : ℕ) (values : List ℤ) → is_spectrum n values ≡ true → first (function_check n values) ≡ (Ok tt)
unfolding function_check
function_found n values e = sym (found (skip e end))

module _ (n : ℕ) (values : List ℤ) (low : 1 ≤ n) (size : length values ≡ 2 ^ n) where
  -- a value that is too large is no function's
  pub outside : (limit : ℕ) → limit ≡ 2 ^ (n - 1) → every (λ v. leb (nat_abs v) limit) values ≡ false → is_spectrum n values ≡ false
  outside limit e h = same_test (is_spectrum n values) false (λ t. sym h ∙ inside t) (λ t. cc)
    where
      inside : is_spectrum n values ≡ true → every (λ v. leb (nat_abs v) limit) values ≡ true
      inside t =
          every_of (λ v. leb (nat_abs v) limit) (pos 0) values
          (λ k l. le-leb (nat_abs (value_at values k)) limit (subst (λ (m : ℕ). nat_abs (value_at values k) ≤ m) (sym e) (is_spectrum_small n values low size t k (omega (arith, size)))))

  -- the transform
  abbrev pub transformed : List ℤ
  transformed = list_below (2 ^ n) (λ x. transform n (value_at values) x)

  entry : (x : ℕ) → x < 2 ^ n → value_at transformed x ≡ transform n (value_at values) x
  entry x l = get_or_list_below (2 ^ n) (λ x. transform n (value_at values) x) x (pos 0) l

  -- it is 2^(n−1) or −2^(n−1) everywhere exactly when a function has the values
  pub full_test : (limit : ℕ) → limit ≡ 2 ^ (n - 1) → every (λ v. eqb (nat_abs v) limit) transformed ≡ is_spectrum n values
  full_test limit e =
      same_test (every (λ v. eqb (nat_abs v) limit) transformed) (is_spectrum n values)
      (λ t. full_is_spectrum n values low size
      (λ x l. ap nat_abs (sym (entry x l)) ∙ eqb-true _ _ (every_at (λ v. eqb (nat_abs v) limit) (pos 0) transformed t x (below x l)) ∙ e))
      (λ t. every_of (λ v. eqb (nat_abs v) limit) (pos 0) transformed
      (λ x l. let l' : x < 2 ^ n = above x l in eq-eqb _ _ (ap nat_abs (entry x l') ∙ is_spectrum_full n values low size t x l' ∙ sym e)))
    where
      below : (x : ℕ) → x < 2 ^ n → x < length transformed
      below x l = subst (λ (k : ℕ). x < k) (sym (length_list_below (2 ^ n) (λ x. transform n (value_at values) x))) l

      above : (x : ℕ) → x < length transformed → x < 2 ^ n
      above x l = subst (λ (k : ℕ). x < k) (length_list_below (2 ^ n) (λ x. transform n (value_at values) x)) l

  -- its signs are the inverse
  pub signs_are : list_below (length transformed) (λ x. sign_bit (value_at transformed x)) ≡ list_below (2 ^ n) (λ x. inverse n (value_at values) x)
  unfolding inverse
  signs_are =
      ap (λ (k : ℕ). list_below k (λ x. sign_bit (value_at transformed x))) (length_list_below (2 ^ n) (λ x. transform n (value_at values) x))
      ∙ list_below_cong (2 ^ n) _ _ (λ x l. ap sign_bit (entry x l))

-- the copied values may be transformed
pub summable : (n : ℕ) (values work : List ℤ) (table : List ℕ) → Invertible n values work table → Summable n values
summable n values work table r = record {
  few = r.few;
  size = r.size;
  bound = 2 ^ (n - 1);
  small = r.small;
  total = le_trans (mul-le-mul (pow_mono {i = n} {j = 8} r.few) (pow_mono {i = n - 1} {j = 8} (omega (arith, r.few)))) (lit≤ tt);
}

-- what the call's own checks leave for the work
module _ (n : ℕ) (values : List ℤ) (table : List ℕ) (ok : first (inverse_lengths n (length values) (length table)) ≡ (Ok tt)) where
  own : Passed (inverse_lengths n (length values) (length table))
  own = passed (inverse_lengths n (length values) (length table)) ok

  pub inverse_low : 1 ≤ n
  unfolding inverse_lengths
  inverse_low = range_low 1 8 n own.0

  pub inverse_few : n ≤ 8
  unfolding inverse_lengths
  inverse_few = range_high 1 8 n own.0

  pub inverse_size : length values ≡ 2 ^ n
  unfolding inverse_lengths
  inverse_size = eqb-true (length values) (2 ^ n) own.1.0

  pub inverse_room : length table ≡ 2 ^ n
  unfolding inverse_lengths
  inverse_room = eqb-true (length table) (2 ^ n) own.1.1.0

  pub inverse_short : length values ≤ 256
  inverse_short = le_trans (le_of_eq inverse_size) (pow_mono {j = 8} inverse_few)

  -- then the last line decides
  pub inverse_decided : first (inverse_checks n values (length table)) ≡ first (function_check n values)
  unfolding inverse_checks
  inverse_decided = first_append (inverse_lengths n (length values) (length table)) (function_check n values) ok

  pub invertible : (limit : ℕ) → limit ≡ 2 ^ (n - 1) → every (λ v. leb (nat_abs v) limit) values ≡ true → (work : List ℤ) → length values ≤ length work
      → Invertible n values (take (length values) work) table
  invertible limit e inside work fits = record {
    low = inverse_low;
    few = inverse_few;
    size = inverse_size;
    work_size = length-take-le (length values) work fits ∙ inverse_size;
    room = inverse_room;
    small = λ k. go k (dec_lt k (length values));
  }
    where
      go : (k : ℕ) → Dec (k < length values) → nat_abs (value_at values k) ≤ 2 ^ (n - 1)
      go k (yes l) = subst (λ (m : ℕ). nat_abs (value_at values k) ≤ m) e (leb-true _ _ (every_at (λ v. leb (nat_abs v) limit) (pos 0) values inside k l))
      go k (no g) = subst (λ (z : ℤ). nat_abs z ≤ 2 ^ (n - 1)) (sym (get_or-eq_default values (pos 0) (let ge : length values ≤ k = omega arith in ge))) (omega arith)
