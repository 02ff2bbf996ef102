-- What the calls over a part of the combinations report: the largest figure of the part's changes and the first of them that has it; and no figure
-- exactly where no combination within the limit lies in the part.
use Rattle.std.specs.Prelude.{Ok}
use mathlib.Core.Path.{◌≡◌, sym, ap, ◌∙◌}
use mathlib.Core.Logic.{◌↔◌}
use mathlib.Core.List.{List, [], ◌∷◌, Memᴰ}
use Prim.Native.Nat.{ℕ, ◌<◌, ◌≤◌}
use native.Mathlib.Omega.{arith}
use Rattle.boolean.specs.Sums.{each}
use Rattle.boolean.specs.Selection.{Candidate, higher, first_largest}
use Rattle.boolean.proofs.Components.{first_mask}
use Rattle.boolean.proofs.Lists.{some_member, mem_each, in_each}
use Rattle.boolean.proofs.Selection.{first_largest_chooses, first_ranked}
use Rattle.refusals.specs.Table.{Reply, figures, first}
use Rattle.refusals.proofs.Checks.{reply_accepted}
use Rattle.masks.specs.Parts.{components_between, shown_best, best_between}
use Rattle.masks.specs.Statements.{MaskBetween}
use Rattle.masks.proofs.Parts.{in_between, mem_between, ascending_between, none_between}
use Rattle.linear.specs.Nonlinearity.{part_checks}
use Rattle.linear.proofs.Ranges as limit
use Rattle.avalanche.specs.Avalanche.{change, changes_of, correlated, autocorrelation_between, distance_between}
use Rattle.avalanche.specs.Parts.{distance_part_checks, autocorrelation_between_reply, distance_between_reply}
use Rattle.avalanche.specs.Statements.{IsChangeBetween, LargestBetweenReported, AutocorrelationBetweenReported, DistanceBetweenReported, change_rank, distance_of}
use Rattle.avalanche.proofs.Changes.{in_changes_of, mem_changes_of, ascending_over}
use Rattle.avalanche.proofs.Distance.{part_accepted}
use Rattle.avalanche.proofs.Ranges.{shown_largest}
use Rattle.avalanche.proofs.Reports.{before_rank}

-- ---- any figure of combinations under changes
module _ (n m i j low high : ℕ) (figure : ℕ → ℕ → ℕ) where
  -- the part's changes
  abbrev part_changes : List Candidate
  part_changes = each (components_between m i low high) (changes_of n j figure)

  in_part : (c s : ℕ) → IsChangeBetween n m i j low high c s → Memᴰ (change figure c s) part_changes
  in_part c s h =
      in_each (components_between m i low high) (changes_of n j figure) c (change figure c s)
      (in_between m i low high c h.mask.mask h.mask.from h.mask.to) (in_changes_of n j figure c s h.shift)

  mem_part : (p : Candidate) → Memᴰ p part_changes → (c s : ℕ) × IsChangeBetween n m i j low high c s × (p ≡ change figure c s)
  mem_part p k =
      let t = mem_each (components_between m i low high) (changes_of n j figure) p k in
      let r = mem_between m i low high t.0 t.1 in
      let u = mem_changes_of n j figure t.0 p t.2 in
      (t.0, u.0, record { mask = record { mask = r.0; from = r.1; to = r.2 }; shift = u.1 }, u.2)

  none_found : ((k : ℕ) → ¬ MaskBetween m i low high k) → shown_best higher part_changes ≡ []
  unfolding each
  none_found h = ap (λ (l : List ℕ). shown_best higher (each l (changes_of n j figure))) (none_between m i low high h)

  module _ (n_low : 1 ≤ n) (j_low : 1 ≤ j) {said : Reply} (is : said ≡ figures (shown_best higher part_changes)) where
    largest_between : (k : ℕ) → MaskBetween m i low high k → LargestBetweenReported n m i j low high figure said
    largest_between k inside =
        let some = some_member part_changes (in_part k 1 (record { mask = inside; shift = first_mask n j n_low j_low })) in
        let found : Candidate = first_largest part_changes in
        let t = mem_part found (first_largest_chooses.mem some.2) in
        record {
          d = found.figure;
          c = t.0;
          s = t.1;
          reply = is ∙ ap figures (shown_largest part_changes some.2) ∙ ap (λ (p : Candidate). figures (found.figure ∷ p.witness)) t.3;
          largest = λ c s h. first_largest_chooses.all part_changes (change figure c s) (in_part c s h);
          member = t.2;
          reached = sym (ap (λ (p : Candidate). p.figure) t.3);
          before = λ c' s' h l.
              first_ranked (change_rank n m) (λ r p. p.figure < r.figure)
              (ascending_over n m j figure (components_between m i low high) (ascending_between m i low high))
              (first_largest_chooses.early some.2) (change figure c' s') (in_part c' s' h)
              (omega (arith, ap (change_rank n m) t.3, before_rank n m c' s' t.0 t.1 h.mask.mask.high h.shift.high l));
        }

    nothing_between : (said ≡ figures []) ↔ ((k : ℕ) → ¬ MaskBetween m i low high k)
    nothing_between = (
      λ e k inside. let r = largest_between k inside in let z : ◌≡◌ {A = ℕ} 0 1 = cc r.reply in omega arith,
      λ h. is ∙ ap figures (none_found h),
    )

-- ---- the autocorrelation
module _ (n m : ℕ) (rows : List ℕ) (i low high : ℕ) (ok : first (part_checks n m rows i low high) ≡ (Ok tt)) where
  n_low : 1 ≤ n
  n_low = (limit.part_accepted n m rows i low high ok).limit.box.n_low

  autocorrelation_is : autocorrelation_between_reply n m rows i low high
      ≡ figures (shown_best higher (part_changes n m i n low high (correlated n rows)))
  unfolding autocorrelation_between best_between
  autocorrelation_is = sym (reply_accepted ok (autocorrelation_between n m rows i low high))

  pub autocorrelation_between_reported : (k : ℕ) → MaskBetween m i low high k → AutocorrelationBetweenReported n m rows i low high
  autocorrelation_between_reported = largest_between n m i n low high (correlated n rows) n_low n_low autocorrelation_is

  pub autocorrelation_between_nothing : (autocorrelation_between_reply n m rows i low high ≡ figures []) ↔ ((k : ℕ) → ¬ MaskBetween m i low high k)
  autocorrelation_between_nothing = nothing_between n m i n low high (correlated n rows) n_low n_low autocorrelation_is

-- ---- the dynamic distance
module _ (n m : ℕ) (rows : List ℕ) (i j low high : ℕ) (ok : first (distance_part_checks n m rows i j low high) ≡ (Ok tt)) where
  distance_is : distance_between_reply n m rows i j low high ≡ figures (shown_best higher (part_changes n m i j low high (distance_of n rows)))
  unfolding distance_between best_between
  distance_is = sym (reply_accepted ok (distance_between n m rows i j low high))

  pub distance_between_reported : (k : ℕ) → MaskBetween m i low high k → DistanceBetweenReported n m rows i j low high
  distance_between_reported =
      let w = part_accepted n m rows i j low high ok in
      largest_between n m i j low high (distance_of n rows) w.box.n_low w.j_low distance_is

  pub distance_between_nothing : (distance_between_reply n m rows i j low high ≡ figures []) ↔ ((k : ℕ) → ¬ MaskBetween m i low high k)
  distance_between_nothing =
      let w = part_accepted n m rows i j low high ok in
      nothing_between n m i j low high (distance_of n rows) w.box.n_low w.j_low distance_is
