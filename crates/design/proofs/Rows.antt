-- Two rows exchanged: each value is given as often as before. Assumes nothing.
use Prim.Native.Nat.{ℕ, zero, suc, ◌+◌, ◌<◌}
use mathlib.Core.Path.{◌≡◌, sym, ap, ◌∙◌}
use mathlib.Core.List.{List}
use native.Mathlib.Nat.{not-suc-le-zero}
use native.Mathlib.Decide.{ℕ_discrete}
use native.Mathlib.Omega.{arith}
use lib.Dec.{eqb}
use lib.ListN.{length, set, length-set}
use lib.Seq.{get_or-set_same, get_or-set_other}
use Rattle.boolean.specs.Sums.{count_below, one_if}
use Rattle.boolean.specs.Functions.{at, swapped}
use Rattle.boolean.proofs.Counts.{count_cong}
use Rattle.boolean.proofs.Swapped.{second_stored}

module _ (v : ℕ) where
  abbrev times : List ℕ → ℕ → ℕ
  times l k = count_below k (λ x. eqb (at l x) v)

  -- one row replaced: the old one is counted no more, and the new one is
  times_set : (l : List ℕ) (i a k : ℕ) → i < length l → i < k → times (set l i a) k + one_if (eqb (at l i) v) ≡ times l k + one_if (eqb a v)
  unfolding count_below
  times_set l i a zero h lt = absurd (not-suc-le-zero lt)
  times_set l i a (suc k) h lt = pick (λ lower. times_set l i a k h lower) (ℕ_discrete i k)
    where
      pick : (i < k → times (set l i a) k + one_if (eqb (at l i) v) ≡ times l k + one_if (eqb a v)) → Dec (i ≡ k)
          → times (set l i a) k + one_if (eqb (at (set l i a) k) v) + one_if (eqb (at l i) v) ≡ times l k + one_if (eqb (at l k) v) + one_if (eqb a v)
      pick r (yes e) =
          let same : times (set l i a) k ≡ times l k = count_cong k (λ x. eqb (at (set l i a) x) v) (λ x. eqb (at l x) v) (λ x j. ap (λ (z : ℕ). eqb z v) (get_or-set_other l i x a 0 (λ q. omega (arith, e, q, j)))) in
          let new : one_if (eqb (at (set l i a) k) v) ≡ one_if (eqb a v) = ap (λ (j : ℕ). one_if (eqb (at (set l i a) j) v)) (sym e) ∙ ap (λ (z : ℕ). one_if (eqb z v)) (get_or-set_same l i a 0 h) in
          let old : one_if (eqb (at l i) v) ≡ one_if (eqb (at l k) v) = ap (λ (j : ℕ). one_if (eqb (at l j) v)) e in
          omega (arith, same, new, old)
      pick r (no e) =
          let lower : i < k = omega (arith, lt) in
          let rest = r lower in
          let same : one_if (eqb (at (set l i a) k) v) ≡ one_if (eqb (at l k) v) = ap (λ (z : ℕ). one_if (eqb z v)) (get_or-set_other l i k a 0 (λ q. e (sym q))) in
          omega (arith, rest, same)

  pub times_swapped : (x y : ℕ) (rows : List ℕ) (k : ℕ) → length rows ≡ k → x < k → y < k → times (swapped rows x y) k ≡ times rows k
  unfolding swapped
  times_swapped x y rows k e lx ly =
      let one = times_set rows x (at rows y) k (omega (arith, e)) lx in
      let two = times_set (set rows x (at rows y)) y (at rows x) k (omega (arith, e, length-set rows x (at rows y))) ly in
      let same : one_if (eqb (at (set rows x (at rows y)) y) v) ≡ one_if (eqb (at rows y) v) = ap (λ (z : ℕ). one_if (eqb z v)) (second_stored x y rows (omega (arith, e))) in
      omega (arith, one, two, same)
