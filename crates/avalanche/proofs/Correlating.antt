-- From the spectrum of a component to its autocorrelation: the squares of its Walsh values, twice the spectrum's, which are small enough to be
-- transformed, and their transform.
use mathlib.Core.Path.{◌≡◌, sym, ap, ◌∙◌}
use mathlib.Core.List.{List}
use Prim.Native.Nat.{ℕ, ◌-◌, ◌^◌, ◌<◌, ◌≤◌}
use native.Mathlib.Nat.{le_refl, le_trans, le_of_eq, mul-le-mul}
use native.Mathlib.Omega.{arith}
use native.Mathlib.Decide.{dec_lt}
use lib.Dec.{lit≤}
use lib.IntN.{ℤ, pos, ◌+ℤ◌, ◌*ℤ◌, nat_abs}
use lib.ListN.{length, get_or-eq_default}
use lib.Pow.{pow_mono}
use Rattle.boolean.specs.Sums.{list_below}
use Rattle.boolean.specs.Functions.{value_at, component, walsh, approximation, spectrum, transform, square}
use Rattle.boolean.proofs.Approximations.{walsh_twice, approximation_le}
use Rattle.boolean.proofs.Digits.{component_lt}
use Rattle.boolean.proofs.Lists.{length_list_below, get_or_list_below, list_below_cong}
use Rattle.boolean.proofs.Spectrum.{square_is}
use Rattle.boolean.proofs.Transform.{transform_cong}
use Rattle.boolean.proofs.Walsh.{walsh_le}
use Rattle.boolean.proofs.Correlation.{squares_transform}
use Rattle.walsh.specs.Work.{Summable}
use Rattle.avalanche.specs.Work.{correlations}

module _ (n : ℕ) (rows : List ℕ) (c : ℕ) (low : 1 ≤ n) (few : n ≤ 8) {values : List ℤ} (e : values ≡ spectrum n (component rows c)) where
  -- the spectrum's values are small
  long : length values ≡ 2 ^ n
  unfolding spectrum
  long = ap length e ∙ length_list_below (2 ^ n) (approximation n (component rows c))

  value_is : (w : ℕ) → w < 2 ^ n → value_at values w ≡ approximation n (component rows c) w
  unfolding spectrum
  value_is w l = ap (λ (vs : List ℤ). value_at vs w) e ∙ get_or_list_below (2 ^ n) (approximation n (component rows c)) w (pos 0) l

  pub spectrum_small : (k : ℕ) → nat_abs (value_at values k) ≤ 128
  spectrum_small k = go (dec_lt k (2 ^ n))
    where
      go : Dec (k < 2 ^ n) → nat_abs (value_at values k) ≤ 128
      go (yes l) = le_trans (le_of_eq (ap nat_abs (value_is k l))) (le_trans (approximation_le n low (component rows c) k) (pow_mono {i = n - 1} {j = 7} (omega (arith, few))))
      go (no l) = omega (arith, ap nat_abs (get_or-eq_default values (pos 0) {n = k} (omega (arith, long))))

  -- the squares of their doubles are those of the Walsh values
  module _ {squares : List ℤ} (q : squares ≡ list_below (length values) (λ k. pos (square (value_at values k +ℤ value_at values k)))) where
    pub squares_long : length squares ≡ 2 ^ n
    squares_long = ap length q ∙ length_list_below (length values) (λ k. pos (square (value_at values k +ℤ value_at values k))) ∙ long

    square_at : (k : ℕ) → k < 2 ^ n → value_at squares k ≡ pos (square (walsh n (component rows c) k))
    square_at k l =
        ap (λ (vs : List ℤ). value_at vs k) q
        ∙ get_or_list_below (length values) (λ k. pos (square (value_at values k +ℤ value_at values k))) k (pos 0) (omega (arith, long))
        ∙ ap (λ (v : ℤ). pos (square (v +ℤ v))) (value_is k l) ∙ ap (λ (v : ℤ). pos (square v)) (walsh_twice n (component rows c) k low)

    walsh_small : (k : ℕ) → nat_abs (walsh n (component rows c) k) ≤ 256
    walsh_small k = le_trans (walsh_le n (component rows c) k) (pow_mono {i = n} {j = 8} few)

    squares_small : (k : ℕ) → nat_abs (value_at squares k) ≤ 65536
    unfolding square
    squares_small k = go (dec_lt k (2 ^ n))
      where
        go : Dec (k < 2 ^ n) → nat_abs (value_at squares k) ≤ 65536
        go (yes l) = le_trans (le_of_eq (ap nat_abs (square_at k l))) (mul-le-mul (walsh_small k) (walsh_small k))
        go (no l) = omega (arith, ap nat_abs (get_or-eq_default squares (pos 0) {n = k} (omega (arith, squares_long))))

    pub squares_summable : Summable n squares
    squares_summable = record {
      few = few;
      size = squares_long;
      bound = 65536;
      small = squares_small;
      total = le_trans (mul-le-mul (pow_mono {i = n} {j = 8} few) (le_refl 65536)) (lit≤ tt);
    }

    -- and their transform
    pub squares_correlate : list_below (2 ^ n) (λ w. transform n (value_at squares) w) ≡ correlations n rows c
    unfolding correlations
    squares_correlate =
        list_below_cong (2 ^ n) _ _ (λ s l.
        transform_cong n (value_at squares) (λ w. walsh n (component rows c) w *ℤ walsh n (component rows c) w) s
        (λ w k. square_at w k ∙ sym (square_is (walsh n (component rows c) w)))
        ∙ squares_transform n (component rows c) (λ x k. component_lt rows c x) s l)
