-- A function changes evenly under every nonzero input change exactly when it is bent: Wiener-Khinchin and inversion.
use mathlib.Core.Path.{◌≡◌, sym, ap, ap₂, ◌∙◌}
use mathlib.Core.Logic.{◌↔◌}
use Prim.Native.Nat.{ℕ, zero, suc, ◌-◌, ◌^◌, ◌<◌, ◌≤◌}
use native.Mathlib.Nat.{le_of_eq, not-suc-le-zero}
use native.Mathlib.Omega.{arith}
use lib.Pow.{pow_pos}
use lib.IntN.{ℤ, pos, ◌+ℤ◌, ◌*ℤ◌, nat_abs, +ℤ_idl, +ℤ_idr, *ℤ-zero}
use Rattle.boolean.specs.Bits.{dot}
use Rattle.boolean.specs.Functions.{Boolean, Bent, autocorrelation, sign, square, transform, walsh}
use Rattle.boolean.specs.Sums.{sum_below}
use Rattle.boolean.proofs.Bent.{bent_of_squares, bent_squares}
use Rattle.boolean.proofs.Correlation.{squares_transform, correlation_half, correlation_zero}
use Rattle.boolean.proofs.Dots.{dot_comm, dot_zero}
use Rattle.boolean.proofs.Ints.{one-*ℤ}
use Rattle.boolean.proofs.Sizes.{no_size}
use Rattle.boolean.proofs.Spectrum.{square_is, cancelℤ, wiener_khinchin}
use Rattle.boolean.proofs.Transform.{transform_cong, inversion}
use Rattle.avalanche.specs.Avalanche.{imbalance}
use Rattle.avalanche.proofs.Criteria.{balanced, no_imbalance}
use Rattle.claims.specs.Statements.{ChangesEvenly}

-- ---- k at 0, and 0 elsewhere: its transform is k everywhere
unfoldable spike : ℕ → ℕ → ℤ
spike k zero = pos k
spike k (suc s) = pos 0

sum_first : (k : ℕ) (F : ℕ → ℤ) → ((x : ℕ) → F (suc x) ≡ pos 0) → sum_below (suc k) F ≡ F 0
unfolding sum_below
sum_first zero F h = +ℤ_idl (F 0)
sum_first (suc k) F h = ap₂ (λ (a b : ℤ). a +ℤ b) (sum_first k F h) (h k) ∙ +ℤ_idr (F 0)

spike_transform : (n k w : ℕ) → transform n (spike k) w ≡ pos k
unfolding transform spike sign
spike_transform n k w =
    let some : 2 ^ n ≡ suc (2 ^ n - 1) = omega (arith, pow_pos n) in
    ap (λ (j : ℕ). sum_below j (λ x. sign (dot w x) *ℤ spike k x)) some
    ∙ sum_first (2 ^ n - 1) (λ x. sign (dot w x) *ℤ spike k x) (λ x. *ℤ-zero (sign (dot w (suc x))))
    ∙ ap (λ (b : ℕ). sign b *ℤ pos k) (dot_comm w 0 ∙ dot_zero w) ∙ one-*ℤ (pos k)

-- every r(s) from s = 1 is 0
abbrev Even : ℕ → (ℕ → ℕ) → Type 0
Even n f = (s : ℕ) → 1 ≤ s → s < 2 ^ n → autocorrelation n f s ≡ pos 0

module _ (n : ℕ) (f : ℕ → ℕ) (h : Boolean n f) where
  is_spike : Even n f → (s : ℕ) → s < 2 ^ n → autocorrelation n f s ≡ spike (2 ^ n) s
  unfolding spike
  is_spike e zero l = correlation_zero n f
  is_spike e (suc s) l = e (suc s) (omega arith) l

  -- then the spectrum is flat
  even_flat : Even n f → (w : ℕ) → w < 2 ^ n → square (walsh n f w) ≡ 2 ^ n
  even_flat e w l =
      ap nat_abs
      (sym (square_is (walsh n f w)) ∙ sym (wiener_khinchin n f h w l)
      ∙ transform_cong n (λ s. autocorrelation n f s) (spike (2 ^ n)) w (is_spike e) ∙ spike_transform n (2 ^ n) w)

  -- and back
  flat_spike : ((w : ℕ) → w < 2 ^ n → square (walsh n f w) ≡ 2 ^ n) → (s : ℕ) → s < 2 ^ n → autocorrelation n f s ≡ spike (2 ^ n) s
  flat_spike flat s l =
      cancelℤ (2 ^ n) (autocorrelation n f s) (spike (2 ^ n) s) (pow_pos n)
      (sym (squares_transform n f h s l)
      ∙ transform_cong n (λ w. walsh n f w *ℤ walsh n f w) (λ w. transform n (spike (2 ^ n)) w) s
      (λ w k. square_is (walsh n f w) ∙ ap pos (flat w k) ∙ sym (spike_transform n (2 ^ n) w))
      ∙ inversion n (spike (2 ^ n)) s l)

  flat_even : ((w : ℕ) → w < 2 ^ n → square (walsh n f w) ≡ 2 ^ n) → Even n f
  unfolding spike
  flat_even flat zero lo hi = absurd (not-suc-le-zero lo)
  flat_even flat (suc s) lo hi = flat_spike flat (suc s) hi

  -- the changes are half of the inputs exactly where r(s) is 0
  evenly_even : 1 ≤ n → ChangesEvenly n f ↔ Even n f
  unfolding imbalance
  evenly_even low = (
    λ e s lo hi. no_size (autocorrelation n f s) (omega (arith, correlation_half n f s low, no_imbalance n f s (e s lo hi))),
    λ e s lo hi. balanced n f s (omega (arith, correlation_half n f s low, ap nat_abs (e s lo hi))),
  )

  -- so a function that changes evenly is bent, and back
  pub evenly_bent : 1 ≤ n → ChangesEvenly n f ↔ Bent n f
  evenly_bent low = (
    λ e. bent_of_squares n f low h (λ w l. le_of_eq (even_flat ((evenly_even low).0 e) w l)),
    λ b. (evenly_even low).1 (flat_even (bent_squares n f low b)),
  )
