-- Demand 3: the bound, and what is reported again of the rows that stand after column additions.
use Rattle.std.specs.Prelude.{Ok}
use mathlib.Core.Path.{◌≡◌, refl, sym, ap, ap₂, ◌∙◌, subst}
use mathlib.Core.Logic.{◌↔◌}
use mathlib.Core.List.{List, [], ◌∷◌}
use Prim.Native.Nat.{ℕ, ◌*◌, ◌^◌, ◌≤◌, ◌<◌}
use native.Mathlib.Nat.{le_trans, le_of_eq, le_antisymm}
use native.Mathlib.Omega.{arith}
use lib.Bits.{bit_xor, xor_lt}
use Rattle.boolean.specs.Bits.{bit}
use Rattle.boolean.specs.Functions.{Bent, at, component, distance}
use Rattle.boolean.specs.Selection.{Candidate, shown}
use Rattle.boolean.proofs.Components.{whole_within}
use Rattle.boolean.proofs.Digits.{bit_lt, affine_times, component_lt}
use Rattle.boolean.proofs.Distances.{distance_cong, distance_shift}
use Rattle.boolean.proofs.Xor.{xor_cancel}
use Rattle.refusals.specs.Table.{Box, figures, first, limit_checks}
use Rattle.refusals.proofs.Checks.{Limited, limited, limit_accepted, reply_accepted}
use Rattle.refusals.proofs.Replies.{figures_accepted, same_figures}
use Rattle.linear.specs.Nonlinearity.{nonlinearity, nonlinearity_reply}
use Rattle.linear.specs.Statements.{IsPair}
use Rattle.linear.proofs.Theorems as linear
use Rattle.columns.specs.Addition.{Addition, standing_rows, rows_after_all}
use Rattle.columns.specs.Statements.{Calls}
use Rattle.columns.proofs.Additions.{Fits, rows_with, component_added, times_lt, standing_cases, standing_keeps_box}
use Rattle.columns.proofs.Standing.{calls_stand}
use Rattle.claims.specs.Statements.{FirstPair, ReportedAgain, gap_squared, AllBent}

-- ---- one addition keeps the nonlinearity: a component's distances move among its pairs
module _ (n m : ℕ) (rows : List ℕ) (box : Box n m rows) (a : Addition) (fits : Fits n m a) where
  module _ (i c v e : ℕ) (p : IsPair n m i c v e) where
    moved : IsPair n m i c (bit_xor v (a.mask * bit a.column c)) (bit_xor e (a.constant * bit a.column c))
    moved =
        let t = bit_lt a.column c in
        record {
          mask = p.mask;
          w_high = xor_lt n v _ p.w_high (times_lt (2 ^ n) a.mask _ fits.mask_high t);
          b_high = xor_lt 1 e _ p.b_high (times_lt 2 a.constant _ fits.constant_high t);
        }

    distance_added : distance n (component (rows_with a rows) c) v e
        ≡ distance n (component rows c) (bit_xor v (a.mask * bit a.column c)) (bit_xor e (a.constant * bit a.column c))
    distance_added =
        let t = bit_lt a.column c in
        distance_cong n _ _ v e (λ x l.
        component_added a.column a.mask a.constant rows fits.constant_high c x (omega (arith, box.size))
        ∙ ap (bit_xor (component rows c x)) (affine_times a.mask a.constant x (bit a.column c) t))
        ∙ distance_shift n (component rows c) (a.mask * bit a.column c) (a.constant * bit a.column c) v e
        (λ x l. component_lt rows c x)
        (times_lt 2 a.constant _ fits.constant_high t) p.b_high

  addition_keeps_nonlinearity : (i : ℕ) → 1 ≤ i → (nonlinearity n m (rows_with a rows) i).figure ≡ (nonlinearity n m rows i).figure
  addition_keeps_nonlinearity i i_low = le_antisymm below above
    where
      above : (nonlinearity n m rows i).figure ≤ (nonlinearity n m (rows_with a rows) i).figure
      above =
          let t = linear.nonlinearity_reached n m (rows_with a rows) i box.m_low i_low in
          le_trans (linear.nonlinearity_least n m rows i t.0 _ _ (moved i t.0 t.1 t.2 t.3))
          (le_of_eq (sym (ap (λ (p : Candidate). p.figure) t.4 ∙ distance_added i t.0 t.1 t.2 t.3)))

      below : (nonlinearity n m (rows_with a rows) i).figure ≤ (nonlinearity n m rows i).figure
      below =
          let t = linear.nonlinearity_reached n m rows i box.m_low i_low in
          let p = moved i t.0 t.1 t.2 t.3 in
          le_trans (linear.nonlinearity_least n m (rows_with a rows) i t.0 _ _ p)
          (le_of_eq (distance_added i t.0 _ _ p ∙ ap₂ (distance n (component rows t.0)) (xor_cancel t.1 _) (xor_cancel t.2 _)
          ∙ sym (ap (λ (p : Candidate). p.figure) t.4)))

-- and a refused one too
standing_keeps_nonlinearity : (n m : ℕ) (rows : List ℕ) → Box n m rows → (a : Addition) (i : ℕ) → 1 ≤ i
    → (nonlinearity n m (standing_rows n m rows a) i).figure ≡ (nonlinearity n m rows i).figure
standing_keeps_nonlinearity n m rows box a i i_low =
    standing_cases n m rows a (λ l. (nonlinearity n m l i).figure ≡ (nonlinearity n m rows i).figure)
    (λ fits. addition_keeps_nonlinearity n m rows box a fits i i_low) refl

-- the rows that stand after a list are accepted, and have the same nonlinearity
additions_keep : (n m : ℕ) (rows : List ℕ) (i : ℕ) → first (limit_checks n m rows i) ≡ (Ok tt) → (additions : List Addition)
    → ReportedAgain n m (rows_after_all n m rows additions) i (nonlinearity n m rows i).figure
unfolding rows_after_all
additions_keep n m rows i accepted [] =
    record {
      accepted = accepted;
      witness = (nonlinearity n m rows i).witness;
      reply = sym (reply_accepted accepted (shown (nonlinearity n m rows i)));
    }
additions_keep n m rows i accepted (a ∷ additions) =
    let l = limited n m rows i accepted in
    let next : Limited n m (standing_rows n m rows a) i =
    record { box = standing_keeps_box n m rows l.box a; i_low = l.i_low; i_high = l.i_high } in
    let r = additions_keep n m (standing_rows n m rows a) i (limit_accepted n m (standing_rows n m rows a) i next) additions in
    record {
      accepted = r.accepted;
      witness = r.witness;
      reply = r.reply ∙ ap (λ (d : ℕ). figures (d ∷ r.witness)) (standing_keeps_nonlinearity n m rows l.box a i l.i_low);
    }

-- ---- of a reply that has the figure d
module _ (n m : ℕ) (rows : List ℕ) (i d : ℕ) (witness : List ℕ) (reported : nonlinearity_reply n m rows i ≡ figures (d ∷ witness)) where
  said : (first (limit_checks n m rows i) ≡ (Ok tt)) × ((nonlinearity n m rows i).figure ≡ d)
  said = linear.figure_told n m rows i reported

  pub at_least : (c w b : ℕ) → IsPair n m i c w b → d ≤ distance n (component rows c) w b
  at_least c w b p = le_trans (le_of_eq (sym said.1)) (linear.nonlinearity_least n m rows i c w b p)

  pub additions_report_again : (additions : List Addition) → ReportedAgain n m (rows_after_all n m rows additions) i d
  additions_report_again additions =
      subst (ReportedAgain n m (rows_after_all n m rows additions) i) said.1 (additions_keep n m rows i said.0 additions)

  pub calls_report_again : (additions : List Addition) (last : List ℕ) → Calls n m rows additions last → ReportedAgain n m last i d
  calls_report_again additions last calls =
      subst (λ (r : List ℕ). ReportedAgain n m r i d) (calls_stand n m calls) (additions_report_again additions)

  pub covering : (2 * d ≤ 2 ^ n) × (2 ^ n ≤ gap_squared n d) × (gap_squared n d ≡ 2 ^ n ↔ AllBent n m rows i)
  covering =
      subst (λ (d : ℕ). (2 * d ≤ 2 ^ n) × (2 ^ n ≤ gap_squared n d) × (gap_squared n d ≡ 2 ^ n ↔ AllBent n m rows i)) said.1
      (let l = limited n m rows i said.0 in let t = linear.covering_bound n m rows i l.box.m_low l.i_low in
      (t.0, t.1, linear.covering_equality n m rows i l.box.m_low l.i_low l.box.n_low))

pub first_pair : (n m : ℕ) (rows : List ℕ) (i d c w b : ℕ) → nonlinearity_reply n m rows i ≡ figures (d ∷ c ∷ w ∷ b ∷ [])
    → FirstPair n m rows i d c w b
first_pair n m rows i d c w b e =
    let r = linear.nonlinearity_reported n m rows i (figures_accepted _ _ e).0 in
    subst (λ (l : List ℕ). FirstPair n m rows i (at l 0) (at l 1) (at l 2) (at l 3))
    (same_figures r.reply e)
    (record { member = r.member; exactly = r.reached; first = λ c' w' b' p l same. omega (arith, r.before c' w' b' p l, same) })

-- with the limit m the combinations are all those from 1 to 2^m − 1
pub covering_over_all : (n m : ℕ) (rows : List ℕ) (d : ℕ) (witness : List ℕ) → nonlinearity_reply n m rows m ≡ figures (d ∷ witness)
    → (2 * d ≤ 2 ^ n) × (2 ^ n ≤ gap_squared n d) × (gap_squared n d ≡ 2 ^ n ↔ ((c : ℕ) → 1 ≤ c → c < 2 ^ m → Bent n (component rows c)))
covering_over_all n m rows d witness e =
    let t = covering n m rows m d witness e in
    (t.0, t.1, (λ g c lo hi. t.2.0 g c (whole_within m c lo hi), λ h. t.2.1 (λ c w. h c w.low w.high)))
