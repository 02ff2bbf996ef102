-- The first largest of the figures of combinations under changes: no figure is larger, its witness has it, each before it is smaller, and (1, 1) has it
-- where it is 0.
use mathlib.Core.Path.{◌≡◌, refl, sym, ap, ◌∙◌}
use mathlib.Core.Logic.{◌↔◌, inl, inr}
use mathlib.Core.List.{List, ◌∷◌}
use Prim.Native.Nat.{ℕ, ◌+◌, ◌*◌, ◌^◌, ◌<◌, ◌≤◌}
use native.Mathlib.Nat.{mul-le-mul_right, suc-mul}
use native.Mathlib.Omega.{arith}
use Rattle.boolean.specs.Functions.{at, mask_rank}
use Rattle.boolean.specs.Selection.{Candidate, shown, first_largest}
use Rattle.boolean.proofs.Components.{rank_of_before}
use Rattle.boolean.proofs.FirstLargest.{first_largest_none}
use Rattle.boolean.proofs.Selection.{first_largest_chooses, first_ranked}
use Rattle.refusals.specs.Table.{Reply, figures}
use Rattle.refusals.proofs.Replies.{same_figure}
use Rattle.avalanche.specs.Avalanche.{change, measured}
use Rattle.avalanche.specs.Statements.{IsChange, ChangeBefore, LargestReported, change_rank}
use Rattle.avalanche.proofs.Changes.{in_measured, mem_measured, ascending_measured, measured_first}

-- a change before another has a lower number
pub before_rank : (n m c' s' c s : ℕ) → c' < 2 ^ m → s' < 2 ^ n → ChangeBefore c' s' c s → mask_rank m c' * 2 ^ n + s' < mask_rank m c * 2 ^ n + s
before_rank n m c' s' c s hc hs (inl l) =
    omega (arith, suc-mul (mask_rank m c') (2 ^ n), mul-le-mul_right (2 ^ n) (rank_of_before m c' c hc l))
before_rank n m c' s' c s hc hs (inr l) = omega (arith, ap (λ (z : ℕ). mask_rank m z * 2 ^ n) l.0)

module _ (n m i j : ℕ) (figure : ℕ → ℕ → ℕ) (n_low : 1 ≤ n) (m_low : 1 ≤ m) (i_low : 1 ≤ i) (j_low : 1 ≤ j) where
  abbrev found : Candidate
  found = first_largest (measured n m i j figure)

  pub largest_reported : {said : Reply} → said ≡ figures (shown found) → LargestReported n m i j figure said
  largest_reported said_is =
      let head = measured_first n m i j figure n_low m_low i_low j_low in
      let r = mem_measured n m i j figure found (first_largest_chooses.mem head.1) in
      record {
        d = found.figure;
        c = r.0;
        s = r.1;
        reply = said_is ∙ ap (λ (p : Candidate). figures (found.figure ∷ p.witness)) r.4;
        largest = λ c s h. first_largest_chooses.all (measured n m i j figure) (change figure c s) (in_measured n m i j figure c s h.mask h.shift);
        member = record { mask = r.2; shift = r.3 };
        reached = sym (ap (λ (p : Candidate). p.figure) r.4);
        before = λ c' s' h l.
            first_ranked (change_rank n m) (λ r p. p.figure < r.figure) (ascending_measured n m i j figure)
            (first_largest_chooses.early head.1) (change figure c' s') (in_measured n m i j figure c' s' h.mask h.shift)
            (omega (arith, ap (change_rank n m) r.4, before_rank n m c' s' r.0 r.1 h.mask.high h.shift.high l));
        none = λ e.
            let is_first = ap first_largest head.1 ∙ first_largest_none (change figure 1 1) head.0
            (sym (ap (λ (l : List Candidate). (first_largest l).figure) head.1) ∙ e) in
            let same = ap (λ (p : Candidate). p.witness) (sym r.4 ∙ is_first) in
            (ap (λ (l : List ℕ). at l 0) same, ap (λ (l : List ℕ). at l 1) same);
      }

  -- it is 0 exactly where all are
  pub largest_none : found.figure ≡ 0 ↔ ((c s : ℕ) → IsChange n m i j c s → figure c s ≡ 0)
  largest_none =
      let r = largest_reported refl in
      let is : found.figure ≡ r.d = same_figure refl r.reply in (
        λ e c s h. omega (arith, r.largest c s h, e),
        λ h. is ∙ sym r.reached ∙ h r.c r.s r.member,
      )
