-- A function of one input or more is bent exactly when no square of a Walsh value, twice the linear approximation value, is over 2^n.
use mathlib.Core.Path.{◌≡◌, sym, ap, ap₂, ◌∙◌}
use Prim.Native.Nat.{ℕ, ◌*◌, ◌-◌, ◌^◌, ◌<◌, ◌≤◌}
use native.Mathlib.Omega.{arith}
use lib.Pow.{pow_pos, pow-add}
use lib.IntN.{nat_abs}
use Rattle.boolean.specs.Functions.{Boolean, Bent, walsh, approximation, square}
use Rattle.boolean.proofs.Sizes.{abs_cases, cases_abs}
use Rattle.boolean.proofs.Spectrum.{bent_even}
use Rattle.boolean.proofs.Approximations.{half_power, walsh_size}

module _ (n : ℕ) (f : ℕ → ℕ) (low : 1 ≤ n) where
  pub bent_of_squares : Boolean n f → ((w : ℕ) → w < 2 ^ n → square (walsh n f w) ≤ 2 ^ n) → Bent n f
  bent_of_squares h b =
      let s = bent_even n f h b 0 (pow_pos n) in
      record {
        half = s.0;
        even = s.1;
        flat = λ w l.
            let t = bent_even n f h b w l in
            let same : t.0 ≡ s.0 = omega (arith, t.1, s.1) in
            let size : nat_abs (walsh n f w) ≡ 2 ^ s.0 = t.2 ∙ ap (λ (i : ℕ). 2 ^ i) same in
            abs_cases (approximation n f w) (2 ^ (s.0 - 1)) (omega (arith, walsh_size n low f w, half_power s.0 (omega (arith, s.1))));
      }

  pub bent_squares : Bent n f → (w : ℕ) → w < 2 ^ n → square (walsh n f w) ≡ 2 ^ n
  unfolding square
  bent_squares b w l =
      let h : nat_abs (approximation n f w) ≡ 2 ^ (b.half - 1) = cases_abs (approximation n f w) (2 ^ (b.half - 1)) (b.flat w l) in
      let e : nat_abs (walsh n f w) ≡ 2 ^ b.half = omega (arith, walsh_size n low f w, half_power b.half (omega (arith, b.even))) in
      ap₂ (λ (i j : ℕ). i * j) e e ∙ sym (ap (λ (i : ℕ). 2 ^ i) b.even ∙ pow-add 2 b.half b.half)
