-- The autocorrelation and the dynamic distance as the calls reply them: the largest figure, the first change that has it, and (1, 1) where it is 0;
-- a wider limit covers more. The strict avalanche criterion as document 000 defines it, bit independence, and
-- completeness.
use Rattle.std.specs.Prelude.{Ok}
use mathlib.Core.Path.{◌≡◌, sym, ◌∙◌}
use mathlib.Core.Logic.Iff
use mathlib.Core.Logic.{◌↔◌}
use mathlib.Core.List.{List, [], ◌∷◌}
use Prim.Native.Nat.{ℕ, ◌-◌, ◌^◌, ◌<◌, ◌≤◌}
use native.Mathlib.Omega.{arith}
use lib.Bits.{bit_xor}
use lib.IntN.{nat_abs}
use Rattle.boolean.specs.Functions.{MaskWithin, autocorrelation, component, column}
use Rattle.boolean.specs.Selection.{shown}
use Rattle.boolean.proofs.Components.{whole_within, within_more}
use Rattle.refusals.specs.Table.{Box, first, figures, box_checks, limit_checks, as_figure}
use Rattle.refusals.proofs.Checks.{limited, reply_accepted}
use Rattle.refusals.proofs.Replies.{figures_accepted, head_same, same_figure, figure_true}
use Rattle.avalanche.specs.Avalanche.{correlated, box_autocorrelation, dynamic_distance, complete}
use Rattle.avalanche.specs.Calls.{distance_checks, autocorrelation_reply, distance_reply, complete_reply}
use Rattle.avalanche.specs.Statements.{AutocorrelationReported, DistanceReported, ChangesAtHalf, distance_of}
use Rattle.avalanche.proofs.Criteria.{avalanche_exactly, independence_exactly, complete_iff}
use Rattle.avalanche.proofs.Distance.{distance_box, outputs_low, inputs_low}
use Rattle.avalanche.proofs.Reports.{largest_reported}

-- ---- what is reported of an accepted box
pub autocorrelation_reported : (n m : ℕ) (rows : List ℕ) (i : ℕ) → first (limit_checks n m rows i) ≡ (Ok tt)
    → AutocorrelationReported n m rows i
unfolding box_autocorrelation
autocorrelation_reported n m rows i h =
    let l = limited n m rows i h in
    largest_reported n m i n (correlated n rows) l.box.n_low l.box.m_low l.i_low l.box.n_low
    (sym (reply_accepted h (shown (box_autocorrelation n m rows i))))

pub distance_reported : (n m : ℕ) (rows : List ℕ) (i j : ℕ) → first (distance_checks n m rows i j) ≡ (Ok tt)
    → DistanceReported n m rows i j
unfolding dynamic_distance
distance_reported n m rows i j h =
    let b = distance_box n m rows i j h in
    largest_reported n m i j (distance_of n rows) b.n_low b.m_low (outputs_low n m rows i j h) (inputs_low n m rows i j h)
    (sym (reply_accepted h (shown (dynamic_distance n m rows i j))))

-- "and s from 1": no change is left out by their number of ones
pub autocorrelation_most : (n m : ℕ) (rows : List ℕ) (i d : ℕ) (v : List ℕ) → autocorrelation_reply n m rows i ≡ figures (d ∷ v)
    → (c s : ℕ) → MaskWithin i (2 ^ m) c → 1 ≤ s → s < 2 ^ n → nat_abs (autocorrelation n (component rows c) s) ≤ d
autocorrelation_most n m rows i d v e c s w low high =
    let r = autocorrelation_reported n m rows i (figures_accepted (first (limit_checks n m rows i)) (shown (box_autocorrelation n m rows i)) e).0 in
    omega (arith, r.largest c s (record { mask = w; shift = whole_within n s low high }), same_figure r.reply e)

-- ---- "cover combinations of at most i outputs": a wider limit covers more, so that no figure is smaller
module _ (n m : ℕ) (rows : List ℕ) (i j : ℕ) (wider : i ≤ j) (d e : ℕ) (v w : List ℕ) where
  pub autocorrelation_rises : autocorrelation_reply n m rows i ≡ figures (d ∷ v) → autocorrelation_reply n m rows j ≡ figures (e ∷ w) → d ≤ e
  autocorrelation_rises p q =
      let r = autocorrelation_reported n m rows i (figures_accepted (first (limit_checks n m rows i)) _ p).0 in
      let s = autocorrelation_reported n m rows j (figures_accepted (first (limit_checks n m rows j)) _ q).0 in
      let t = r.member in
      let most = s.largest r.c r.s (record { mask = within_more wider t.mask; shift = t.shift }) in
      omega (arith, most, r.reached, same_figure r.reply p, same_figure s.reply q)

  pub distance_rises : (k l : ℕ) → k ≤ l → distance_reply n m rows i k ≡ figures (d ∷ v) → distance_reply n m rows j l ≡ figures (e ∷ w)
      → d ≤ e
  distance_rises k l more p q =
      let r = distance_reported n m rows i k (figures_accepted (first (distance_checks n m rows i k)) _ p).0 in
      let s = distance_reported n m rows j l (figures_accepted (first (distance_checks n m rows j l)) _ q).0 in
      let t = r.member in
      let most = s.largest r.c r.s (record { mask = within_more wider t.mask; shift = within_more more t.shift }) in
      omega (arith, most, r.reached, same_figure r.reply p, same_figure s.reply q)

-- ---- the criteria, of a reply
module _ (n m : ℕ) (rows : List ℕ) (i j d : ℕ) (witness : List ℕ) (e : distance_reply n m rows i j ≡ figures (d ∷ witness)) where
  said : (first (distance_checks n m rows i j) ≡ (Ok tt)) × ((d ∷ witness) ≡ shown (dynamic_distance n m rows i j))
  said = figures_accepted (first (distance_checks n m rows i j)) (shown (dynamic_distance n m rows i j)) e

  replied_box : Box n m rows
  replied_box = distance_box n m rows i j said.0

  -- the figure of the reply is the definition's
  pub replied_distance : d ≡ (dynamic_distance n m rows i j).figure
  replied_distance = head_same said.1

-- "SAC holds when order (1, 1) gives 0,": document 000's strict avalanche criterion, each input bit changes each column at half of the inputs
pub strict_avalanche : (n m : ℕ) (rows : List ℕ) (d : ℕ) (witness : List ℕ) → distance_reply n m rows 1 1 ≡ figures (d ∷ witness)
    → (d ≡ 0) ↔ ((j k : ℕ) → 1 ≤ j → j ≤ m → 1 ≤ k → k ≤ n → ChangesAtHalf n (column rows j) k)
strict_avalanche n m rows d witness e =
    let is = replied_distance n m rows 1 1 d witness e in
    Iff.trans (λ z. sym is ∙ z, λ z. is ∙ z) (avalanche_exactly n m rows (replied_box n m rows 1 1 d witness e))

-- "BIC when (2, 1) does.": each input bit changes each column, and each XOR of two columns, at half of the inputs. (An accepted call of order (2, 1)
-- has m ≥ 2; with m = 1 it is refused by 6.)
pub bit_independence : (n m : ℕ) (rows : List ℕ) (d : ℕ) (witness : List ℕ) → distance_reply n m rows 2 1 ≡ figures (d ∷ witness)
    → (d ≡ 0)
    ↔ (((j k : ℕ) → 1 ≤ j → j ≤ m → 1 ≤ k → k ≤ n → ChangesAtHalf n (column rows j) k)
    × ((i j k : ℕ) → 1 ≤ i → i < j → j ≤ m → 1 ≤ k → k ≤ n → ChangesAtHalf n (λ x. bit_xor (column rows i x) (column rows j x)) k))
bit_independence n m rows d witness e =
    let is = replied_distance n m rows 2 1 d witness e in
    Iff.trans (λ z. sym is ∙ z, λ z. is ∙ z) (independence_exactly n m rows (replied_box n m rows 2 1 d witness e))

-- ---- "Complete: every input bit changes every column at some x." The reply is 1 for yes.
pub complete_exactly : (n m : ℕ) (rows : List ℕ) (d : ℕ) → complete_reply n m rows ≡ figures (d ∷ [])
    → (d ≡ 1)
    ↔ ((k j : ℕ) → 1 ≤ k → k ≤ n → 1 ≤ j → j ≤ m
    → (x : ℕ) × (x < 2 ^ n) × (¬ (column rows j x ≡ column rows j (bit_xor x (2 ^ (k - 1))))))
complete_exactly n m rows d e =
    Iff.trans (figure_true (complete n m rows) (figures_accepted (first (box_checks n m rows)) (as_figure (complete n m rows)) e).1)
    (complete_iff n m rows)
