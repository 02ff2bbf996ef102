-- Document 02 §13: the dynamic distance of order (i, n) is 0 exactly when (2^n − 2d)² = 2^n, with d the nonlinearity within the limit i;
-- and
-- neither at an odd n.
use Rattle.std.specs.Prelude.{Ok}
use Prim.Native.Nat.{ℕ, ◌^◌}
use mathlib.Core.Path.{◌≡◌, sym, ◌∙◌, subst}
use mathlib.Core.Logic.Iff
use mathlib.Core.Logic.{◌↔◌}
use mathlib.Core.List.{List, ◌∷◌}
use native.Mathlib.Omega.{arith}
use Rattle.boolean.specs.Functions.{Bent, component}
use Rattle.boolean.specs.Selection.{shown}
use Rattle.boolean.proofs.Components.{whole_within}
use Rattle.boolean.proofs.Digits.{component_lt}
use Rattle.refusals.specs.Table.{Box, first, figures}
use Rattle.refusals.proofs.Checks.{box}
use Rattle.refusals.proofs.Replies.{figures_accepted, same_figure}
use Rattle.linear.specs.Nonlinearity.{nonlinearity_reply}
use Rattle.avalanche.specs.Avalanche.{imbalance, dynamic_distance}
use Rattle.avalanche.specs.Calls.{distance_checks, distance_reply}
use Rattle.avalanche.specs.Statements.{DistanceReported}
use Rattle.avalanche.proofs.Criteria.{balanced, no_imbalance}
use Rattle.avalanche.proofs.Theorems.{distance_reported}
use Rattle.claims.specs.Statements.{ChangesEvenly, gap_squared, MaximumAvalanche, AllEven, AllBent}
use Rattle.claims.proofs.Evenly.{evenly_bent}
use Rattle.claims.proofs.Reported.{covering}
use Rattle.claims.proofs.Odd.{odd_gap}

-- "a box whose combinations all change evenly under every nonzero input change is the same thing as a box whose combinations are all bent"
all_evenly_bent : {n m : ℕ} {rows : List ℕ} → Box n m rows → (i : ℕ) → AllEven n m rows i ↔ AllBent n m rows i
all_evenly_bent {n} {m} {rows} sound i =
    let one : (c : ℕ) → ChangesEvenly n (component rows c) ↔ Bent n (component rows c) =
    λ c. evenly_bent n (component rows c) (λ x l. component_lt rows c x) sound.n_low in
    (λ e c w. (one c).0 (e c w), λ b c w. (one c).1 (b c w))

-- of a reply that has the distance e
module _ (n m : ℕ) (rows : List ℕ) (i e d : ℕ) (v w : List ℕ) (told : distance_reply n m rows i n ≡ figures (e ∷ v)) where
  accepted : first (distance_checks n m rows i n) ≡ (Ok tt)
  accepted = (figures_accepted (first (distance_checks n m rows i n)) (shown (dynamic_distance n m rows i n)) told).0

  accepted_box : Box n m rows
  unfolding distance_checks
  accepted_box = box n m rows _ accepted

  reported : DistanceReported n m rows i n
  reported = distance_reported n m rows i n accepted

  -- the largest distance is 0 exactly where all are
  distance_evenly : e ≡ 0 ↔ AllEven n m rows i
  distance_evenly =
      let t = reported in
      subst (λ (e : ℕ). e ≡ 0 ↔ AllEven n m rows i) (same_figure t.reply told) (
        λ e c w s lo hi.
            let most = t.largest c s (record { mask = w; shift = whole_within n s lo hi }) in
            let none : imbalance n (component rows c) s ≡ 0 = omega (arith, most, e) in
            balanced n (component rows c) s none,
        λ h.
            let shift = t.member.shift in
            sym t.reached ∙ no_imbalance n (component rows t.c) t.s (h t.c t.member.mask t.s shift.low shift.high),
      )

  distance_bent : e ≡ 0 ↔ AllBent n m rows i
  distance_bent = Iff.trans distance_evenly (all_evenly_bent accepted_box i)

  -- "Show it also for the limit i: order (i, n) against the nonlinearity within i. At n = 1 and every other odd n neither side occurs."
  module _ (other : nonlinearity_reply n m rows i ≡ figures (d ∷ w)) where
    distance_gap : e ≡ 0 ↔ gap_squared n d ≡ 2 ^ n
    distance_gap = Iff.trans distance_bent (Iff.symm (covering n m rows i d w other).2)

    pub maximum_avalanche : MaximumAvalanche n m rows i e d
    maximum_avalanche = record {
      not_over = (covering n m rows i d w other).0;
      exactly = distance_gap;
      evenly = distance_evenly;
      bent = distance_bent;
      even_is_bent = all_evenly_bent accepted_box i;
      never_odd = λ o. (λ z. odd_gap n d o (distance_gap.0 z), odd_gap n d o);
    }
