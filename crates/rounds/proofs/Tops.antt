-- What the analyser gives of a component: the peak, by its least count; and, by its spectrum, the peak's place and the sign there. Assumes nothing.
use Rattle.std.specs.Prelude.{Ok}
use mathlib.Core.Path.{◌≡◌, refl, sym, ap, ◌∙◌}
use mathlib.Core.List.{List}
use Prim.Native.Nat.{ℕ, ◌+◌, ◌-◌, ◌*◌, ◌<◌, ◌≤◌, ◌^◌}
use native.Mathlib.Omega.{arith}
use native.Mathlib.Decide.{dec_lt}
use borrow.Author.Tests.{eq-eqb}
use lib.IntN.{ℤ, pos, negsuc, ◌+ℤ◌, nat_abs}
use lib.ListN.{length}
use Rattle.boolean.specs.Functions.{at, value_at, component, approximation, spectrum, sign_bit}
use Rattle.boolean.specs.Selection.{first_least}
use Rattle.boolean.proofs.Lists.{length_list_below, get_or_list_below}
use Rattle.boolean.proofs.Approximations.{walsh_twice, walsh_size, half_power}
use Rattle.refusals.specs.Table.{first, box_checks, after, Box}
use Rattle.refusals.proofs.Bounds.{range_true}
use Rattle.refusals.proofs.Checks.{accepted, box_accepted, first_append, after_accepted}
use Rattle.linear.specs.Nonlinearity.{pairs_of}
use Rattle.linear.specs.Calls.{component_checks}
use Rattle.linear.proofs.Theorems.{component_within, component_met}
use Rattle.rounds.specs.Round.{Summand, summand_of}
use Rattle.rounds.specs.Spectra.{peak}
use Rattle.rounds.specs.Work.{Highest, TopOf}
use Rattle.rounds.specs.declared.Top.{Top}
use Rattle.rounds.proofs.Peaks.{size_of, Peak}
use Rattle.rounds.proofs.Spectra.{place_peak, peak_size}
use Rattle.linear.proofs.Nearest.{values_nonempty, largest_le, least_figure}
use Rattle.walsh.specs.Magnitudes.{FirstOfMagnitude, largest_magnitude}
use Rattle.walsh.proofs.Magnitudes.{Largest, largest_of, place_inside, place_has}

-- the magnitude of a value
abbrev pub sizes : List ℤ → ℕ → ℕ
sizes values w = nat_abs (value_at values w)

-- ---- the first place of the largest magnitude is the highest
pub highest_is : (values : List ℤ) (size place : ℕ) → Largest values size → FirstOfMagnitude values size place → (top : Top) → top.mask ≡ place
    → top.sign ≡ sign_bit (value_at values place) → Highest values top
highest_is values size place t f top p s =
    let has = place_has f t.place t.inside t.reached in
    record {
      inside = omega (arith, place_inside f t.place t.inside t.reached);
      bounds = λ w l. omega (arith, t.bounds w, has, ap (sizes values) p);
      first = λ w l. let other : ¬ (sizes values w ≡ size) = f.first w (omega arith) in omega (arith, t.bounds w, has, ap (sizes values) p);
      signed = s ∙ ap (λ (w : ℕ). sign_bit (value_at values w)) (sym p);
    }

-- ---- a box has one peak
pub peak_unique : (s : Summand) (c w v : ℕ) → Peak s c w → Peak s c v → w ≡ v
peak_unique s c w v p q = pick (dec_lt w v) (dec_lt v w)
  where
    pick : Dec (w < v) → Dec (v < w) → w ≡ v
    pick (yes l) r = absurd (omega (arith, q.first w l, p.bounds v q.inside))
    pick (no l) (yes k) = absurd (omega (arith, p.first v k, q.bounds w p.inside))
    pick (no l) (no k) = omega arith

-- ---- twice the fewest inputs at which a component differs from an affine function, and its peak, make 2^n
pub count_peak : (n m : ℕ) (rows : List ℕ) (c : ℕ) → 2 * (first_least (pairs_of n rows c)).figure + (peak (summand_of n m rows) c).figure ≡ 2 ^ n
count_peak n m rows c =
    let box = summand_of n m rows in
    let place = at (peak box c).witness 0 in
    let p = place_peak box c in
    let t = component_met n rows c in
    omega (arith, peak_size box c, component_within n rows c place p.inside, p.bounds t.0 t.1, t.2)

-- so the peak is twice the largest magnitude of the spectrum, and no more than 2^n
pub twice_largest : (n m : ℕ) (rows : List ℕ) (c : ℕ) → 1 ≤ n → {size : ℕ} → size ≡ largest_magnitude (spectrum n (component rows c))
    → (2 * size ≡ (peak (summand_of n m rows) c).figure) × (2 * size ≤ 2 ^ n)
twice_largest n m rows c low e =
    let top = largest_of _ e (values_nonempty n rows c refl) in
    let count = least_figure n rows c refl low top in
    let high = largest_le n rows c refl low top in
    (omega (arith, count_peak n m rows c, count, high, half_power n low), omega (arith, high))

-- ---- the call of the component's spectrum is accepted
module _ (n m : ℕ) (rows : List ℕ) (c : ℕ) (b : Box n m rows) (low : 1 ≤ c) (high : c < 2 ^ m) where
  component_accepted : (room : ℕ) → room ≡ 2 ^ n → first (component_checks n m rows c room) ≡ (Ok tt)
  unfolding component_checks
  component_accepted room e =
      first_append (box_checks n m rows) _ (box_accepted n m rows b)
      ∙ accepted _ (range_true 1 (2 ^ m - 1) c low (omega arith), (eq-eqb room (2 ^ n) e, tt))

  -- so the array holds the spectrum
  pub spectrum_written : {values : List ℤ} (old : List ℤ) → length old ≡ 2 ^ n
      → values ≡ after (first (component_checks n m rows c (length old))) (spectrum n (component rows c)) old → values ≡ spectrum n (component rows c)
  spectrum_written old e h = h ∙ sym (after_accepted (component_accepted (length old) e) (spectrum n (component rows c)) old)

-- ---- and the first place of its largest magnitude is the peak's
twice_sign : (z : ℤ) → sign_bit (z +ℤ z) ≡ sign_bit z
unfolding sign_bit
twice_sign (pos k) = refl
twice_sign (negsuc k) = refl

module _ (n m : ℕ) (rows : List ℕ) (c : ℕ) (low : 1 ≤ n) {values : List ℤ} (e : values ≡ spectrum n (component rows c)) where
  abbrev box : Summand
  box = summand_of n m rows

  pub values_length : length values ≡ 2 ^ n
  unfolding spectrum
  values_length = ap length e ∙ length_list_below (2 ^ n) (approximation n (component rows c))

  value_is : (w : ℕ) → w < 2 ^ n → value_at values w ≡ approximation n (component rows c) w
  unfolding spectrum
  value_is w l = ap (λ (vs : List ℤ). value_at vs w) e ∙ get_or_list_below (2 ^ n) (approximation n (component rows c)) w (pos 0) l

  size_is : (w : ℕ) → w < 2 ^ n → sizes values w * 2 ≡ size_of box c w
  size_is w l = ap (λ (z : ℤ). nat_abs z * 2) (value_is w l) ∙ walsh_size n low (component rows c) w

  -- its first place, and the sign there
  module _ {t : Top} (h : Highest values t) where
    inside : t.mask < 2 ^ n
    inside = omega (arith, h.inside, values_length)

    highest_peak : Peak box c t.mask
    highest_peak = record {
      inside = inside;
      bounds = λ v l. omega (arith, size_is v l, h.bounds v (omega (arith, values_length)), size_is t.mask inside);
      first = λ v l. omega (arith, size_is v (omega (arith, inside)), h.first v l, size_is t.mask inside);
    }

    pub top_of : TopOf box c t
    top_of = record {
      mask_is = peak_unique box c t.mask (at (peak box c).witness 0) highest_peak (place_peak box c);
      sign_is =
          h.signed ∙ ap sign_bit (value_is t.mask inside) ∙ sym (twice_sign (approximation n (component rows c) t.mask))
          ∙ ap sign_bit (walsh_twice n (component rows c) t.mask low);
    }
