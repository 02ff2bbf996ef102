-- What the call over a part of the combinations reports: the least count of the part's pairs and the first of them that has it; and no figure exactly
-- where no combination within the limit lies in the part.
use Rattle.std.specs.Prelude.{Ok}
use mathlib.Core.Path.{◌≡◌, refl, sym, ap, ◌∙◌}
use mathlib.Core.Logic.{◌↔◌}
use mathlib.Core.List.{List, [], Memᴰ}
use Prim.Native.Nat.{ℕ, ◌≤◌}
use native.Mathlib.Omega.{arith}
use Rattle.boolean.specs.Sums.{each}
use Rattle.boolean.specs.Functions.{mask_rank}
use Rattle.boolean.specs.Selection.{Candidate, shown, lower}
use Rattle.refusals.specs.Table.{figures, first}
use Rattle.refusals.proofs.Checks.{reply_accepted}
use Rattle.masks.specs.Parts.{components_between, shown_best, best_between}
use Rattle.masks.specs.Statements.{MaskBetween}
use Rattle.masks.proofs.Gathering.{part_lies}
use Rattle.masks.proofs.Parts.{in_between, mem_between, ascending_between, none_between}
use Rattle.rounds.specs.Round.{Summand, inputs_of, first_given, outputs_of, sum_pairs_of, sum_pairs, sum_checks, sum_between, sum_part_checks, sum_between_reply}
use Rattle.rounds.specs.Statements.{Lex, SumBetweenReported}
use Rattle.rounds.proofs.Decided.{by_rank, decided_of}
use Rattle.rounds.proofs.Entry.{some_inputs}
use Rattle.rounds.proofs.Ranges.{shown_pairs}

module _ (count : ℕ) (handed : List Summand) (i low high : ℕ) where
  abbrev ss : List Summand
  ss = first_given count handed

  abbrev m : ℕ
  m = outputs_of ss

  -- the part's components
  abbrev cs : List ℕ
  cs = components_between m i low high

  between_is : sum_between ss i low high ≡ shown_best lower (sum_pairs ss cs)
  unfolding sum_between best_between sum_pairs
  between_is = refl

  none_found : ((k : ℕ) → ¬ MaskBetween m i low high k) → shown_best lower (sum_pairs ss cs) ≡ []
  unfolding sum_pairs each
  none_found h = ap (λ (l : List ℕ). shown_best lower (each l (sum_pairs_of ss))) (none_between m i low high h)

  inside : (c : ℕ) → MaskBetween m i low high c → Memᴰ c cs
  inside c t = in_between m i low high c t.mask t.from t.to

  module _ (ok : first (sum_part_checks count handed i low high) ≡ (Ok tt)) where
    some : 1 ≤ inputs_of ss
    unfolding sum_part_checks
    some = some_inputs count handed i (part_lies (sum_checks count handed i) m low high ok).0

    pub between_reported : (k : ℕ) → MaskBetween m i low high k → SumBetweenReported count handed i low high
    between_reported k t =
        let r = decided_of ss some (mask_rank m) cs (ascending_between m i low high) k (inside k t) in
        let u = mem_between m i low high r.c r.in_order in
        record {
          d = r.d;
          c = r.c;
          ws = r.ws;
          b = r.b;
          reply = sym (reply_accepted ok (sum_between ss i low high)) ∙ ap figures (between_is ∙ shown_pairs ss cs k (inside k t))
              ∙ ap (λ (p : Candidate). figures (shown p)) r.is;
          least = λ c' v b' p l h. r.least c' v b' (inside c' p) l h;
          mask = record { mask = u.0; from = u.1; to = u.2 };
          fits = r.fits;
          b_high = r.b_high;
          reached = r.reached;
          before = λ c' ws' b' p f h l. r.before c' ws' b' (inside c' p) f h (by_rank Lex m c' p.mask.high l);
        }

    pub between_nothing : (sum_between_reply count handed i low high ≡ figures []) ↔ ((k : ℕ) → ¬ MaskBetween m i low high k)
    between_nothing = (
      λ e k t. let r = between_reported k t in let z : ◌≡◌ {A = ℕ} 0 1 = cc r.reply in omega arith,
      λ h. sym (reply_accepted ok (sum_between ss i low high)) ∙ ap figures (between_is ∙ none_found h),
    )
