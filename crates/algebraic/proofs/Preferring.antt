-- The threshold of a sweep: no component whose degree is not below it is preferred to the weakest so far.
use mathlib.Core.Path.{◌≡◌, ap}
use mathlib.Core.Bool.{Bool, false, cond}
use Prim.Native.Nat.{ℕ, ◌+◌, ◌<◌, ◌≤◌}
use native.Mathlib.Decide.{dec_lt}
use native.Mathlib.Omega.{arith}
use borrow.Author.Tests.{le-leb, lt-leb, le-ltb, eq-eqb, ne_eqb}
use lib.Count.{ones}
use Rattle.boolean.specs.Selection.{lower, ranked}
use Rattle.boolean.proofs.OneBit.{ones_pos}
use Rattle.masks.specs.Masks.{outputs}
use Rattle.algebraic.specs.Work.{degree_at, threshold_of}

module _ (degree c : ℕ) where
  -- a mask of one output, and one of several
  pub threshold_single : ones c ≤ 1 → threshold_of degree c ≡ degree
  unfolding threshold_of
  threshold_single h = ap (λ (t : Bool). cond t degree (degree + 1)) (le-leb (ones c) 1 h)

  pub threshold_several : 1 < ones c → threshold_of degree c ≡ degree + 1
  unfolding threshold_of
  threshold_several h = ap (λ (t : Bool). cond t degree (degree + 1)) (lt-leb (ones c) 1 h)

  -- a higher degree, or the same degree and no fewer outputs
  higher_stays : (d x : ℕ) → degree < d → ranked lower outputs (degree_at d x) (degree_at degree c) ≡ false
  higher_stays d x l = simp (le-ltb d degree (omega arith), ne_eqb d degree (λ e. omega arith))

  equal_stays : (d x : ℕ) → d ≡ degree → ones c ≤ ones x → ranked lower outputs (degree_at d x) (degree_at degree c) ≡ false
  equal_stays d x e l = simp (le-ltb d degree (omega arith), eq-eqb d degree e, le-ltb (ones x) (ones c) l)

  pub not_below : (d x : ℕ) → threshold_of degree c ≤ d → 1 ≤ x → ranked lower outputs (degree_at d x) (degree_at degree c) ≡ false
  not_below d x h low = pick (dec_lt 1 (ones c)) (dec_lt degree d)
    where
      pick : Dec (1 < ones c) → Dec (degree < d) → ranked lower outputs (degree_at d x) (degree_at degree c) ≡ false
      pick many (yes l) = higher_stays d x l
      pick (yes k) (no l) = absurd (omega (arith, threshold_several k, h, l))
      pick (no k) (no l) =
          let one : ones c ≤ 1 = omega arith in
          equal_stays d x (omega (arith, threshold_single one, h, l)) (omega (arith, ones_pos x low))
