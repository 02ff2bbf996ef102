-- What the call over a part of the combinations reports: the least count of the part's pairs and the first of them that has it; and no figure exactly
-- where no combination within the limit lies in the part.
use Rattle.std.specs.Prelude.{Ok}
use mathlib.Core.Path.{◌≡◌, refl, sym, ap, ◌∙◌}
use mathlib.Core.Logic.{◌↔◌}
use mathlib.Core.List.{List, [], ◌∷◌, Memᴰ}
use Prim.Native.Nat.{ℕ, ◌<◌}
use native.Mathlib.Nat.{zero-lt-suc}
use native.Mathlib.Omega.{arith}
use lib.Pow.{pow_pos}
use Rattle.boolean.specs.Sums.{each}
use Rattle.boolean.specs.Selection.{Candidate, lower, first_least}
use Rattle.boolean.proofs.Lists.{some_member, mem_each, in_each}
use Rattle.boolean.proofs.Selection.{first_least_chooses, first_ranked}
use Rattle.refusals.specs.Table.{figures, first}
use Rattle.refusals.proofs.Checks.{reply_accepted}
use Rattle.masks.specs.Parts.{components_between, shown_best, best_between}
use Rattle.masks.specs.Statements.{MaskBetween}
use Rattle.masks.proofs.Parts.{in_between, mem_between, ascending_between, none_between}
use Rattle.linear.specs.Nonlinearity.{pair, pairs_of, nonlinearity_between, nonlinearity_between_reply, part_checks}
use Rattle.linear.specs.Statements.{IsPairBetween, NonlinearityBetweenReported, pair_rank}
use Rattle.linear.proofs.Pairs.{before_rank, in_pairs_of, mem_pairs_of, ascending_over}
use Rattle.linear.proofs.Ranges.{shown_least}

module _ (n m : ℕ) (rows : List ℕ) (i low high : ℕ) where
  -- the part's pairs
  abbrev part_pairs : List Candidate
  part_pairs = each (components_between m i low high) (pairs_of n rows)

  in_part : (c w b : ℕ) → IsPairBetween n m i low high c w b → Memᴰ (pair n rows c w b) part_pairs
  in_part c w b h =
      in_each (components_between m i low high) (pairs_of n rows) c (pair n rows c w b)
      (in_between m i low high c h.mask.mask h.mask.from h.mask.to) (in_pairs_of n rows c w b h.w_high h.b_high)

  mem_part : (p : Candidate) → Memᴰ p part_pairs → (c w b : ℕ) × IsPairBetween n m i low high c w b × (p ≡ pair n rows c w b)
  mem_part p k =
      let t = mem_each (components_between m i low high) (pairs_of n rows) p k in
      let s = mem_between m i low high t.0 t.1 in
      let u = mem_pairs_of n rows t.0 p t.2 in
      (t.0, u.0, u.1, record { mask = record { mask = s.0; from = s.1; to = s.2 }; w_high = u.2; b_high = u.3 }, u.4)

  between_is : nonlinearity_between n m rows i low high ≡ shown_best lower part_pairs
  unfolding nonlinearity_between best_between
  between_is = refl

  none_found : ((k : ℕ) → ¬ MaskBetween m i low high k) → shown_best lower part_pairs ≡ []
  unfolding each
  none_found h = ap (λ (l : List ℕ). shown_best lower (each l (pairs_of n rows))) (none_between m i low high h)

  module _ (ok : first (part_checks n m rows i low high) ≡ (Ok tt)) where
    pub between_reported : (k : ℕ) → MaskBetween m i low high k → NonlinearityBetweenReported n m rows i low high
    between_reported k inside =
        let some = some_member part_pairs (in_part k 0 0 (record { mask = inside; w_high = pow_pos n; b_high = zero-lt-suc 1 })) in
        let found : Candidate = first_least part_pairs in
        let t = mem_part found (first_least_chooses.mem some.2) in
        record {
          d = found.figure;
          c = t.0;
          w = t.1;
          b = t.2;
          reply = sym (reply_accepted ok (nonlinearity_between n m rows i low high)) ∙ ap figures (between_is ∙ shown_least part_pairs some.2)
              ∙ ap (λ (p : Candidate). figures (found.figure ∷ p.witness)) t.4;
          least = λ c w b h. first_least_chooses.all part_pairs (pair n rows c w b) (in_part c w b h);
          member = t.3;
          reached = sym (ap (λ (p : Candidate). p.figure) t.4);
          before = λ c' w' b' h l.
              first_ranked (pair_rank n m) (λ r p. r.figure < p.figure)
              (ascending_over n m rows (components_between m i low high) (ascending_between m i low high))
              (first_least_chooses.early some.2) (pair n rows c' w' b') (in_part c' w' b' h)
              (omega (arith, ap (pair_rank n m) t.4, before_rank n m c' w' b' t.0 t.1 t.2 h.mask.mask.high h.w_high h.b_high l));
        }

    pub between_nothing : (nonlinearity_between_reply n m rows i low high ≡ figures []) ↔ ((k : ℕ) → ¬ MaskBetween m i low high k)
    between_nothing = (
      λ e k inside. let r = between_reported k inside in let z : ◌≡◌ {A = ℕ} 0 1 = cc r.reply in omega arith,
      λ h. sym (reply_accepted ok (nonlinearity_between n m rows i low high)) ∙ ap figures (between_is ∙ none_found h),
    )
