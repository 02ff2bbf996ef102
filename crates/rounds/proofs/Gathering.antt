-- The sum by parts: merging the replies of parts, cut anywhere, in any order and grouping, gives the plain call's reply. It is the law of sweeps in parts
-- (masks, proofs/Gathering), of the sum's pairs. Assumes nothing.
use Rattle.std.specs.Prelude.{Result, Ok, Err, ⊤}
use Rattle.refusals.specs.declared.Refusal.{Refusal}
use mathlib.Core.Path.{◌≡◌, refl, ap, ◌∙◌}
use mathlib.Core.Bool.{Bool, true}
use mathlib.Core.List.{List, ◌∷◌}
use Prim.Native.Nat.{ℕ, ◌+◌, ◌^◌, ◌≤◌, ◌<◌}
use native.Mathlib.Nat.{zero-lt-suc}
use lib.Dec.{ltb}
use Rattle.boolean.specs.Functions.{at, components}
use Rattle.boolean.specs.Selection.{Candidate, shown, lower}
use Rattle.boolean.specs.Sums.{each}
use Rattle.boolean.proofs.Components.{in_components, first_mask}
use Rattle.boolean.proofs.Lists.{some_member}
use Rattle.boolean.proofs.Selection.{least, by_least}
use Rattle.refusals.specs.Table.{Reply, reply_after, first, in_range}
use Rattle.masks.specs.Parts.{shown_best, merged_reply, merged_in_turn}
use Rattle.masks.specs.Statements.{Blocks, Cut, Gathered, Covered, replies}
use Rattle.masks.proofs.Gathering as law
use Rattle.rounds.specs.Round.{Summand, first_given, outputs_of, sum_pairs_of, sum_pairs, sum_nonlinearity, sum_checks, sum_reply, sum_between, sum_part_checks}
use Rattle.rounds.specs.Statements.{sum_cut_reply}
use Rattle.rounds.proofs.Entry.{limit_low, some_outputs}
use Rattle.rounds.proofs.Masks.{apart, apart_fits}
use Rattle.rounds.proofs.Nearest.{in_sum_pairs_of, mem_sum_pairs_of}
use Rattle.rounds.proofs.Ranges.{shown_pairs}

-- the pairs come in blocks, one for each component
pub blocks : (ss : List Summand) → Blocks (sum_pairs_of ss)
blocks ss = record {
  some = λ c.
      let t = some_member (sum_pairs_of ss c) (in_sum_pairs_of ss c (apart ss 0) 0 (apart_fits ss 0) (zero-lt-suc 1)) in
      (t.0, t.1, t.2);
  names = λ c p k. ap (λ (p : Candidate). at p.witness 0) (mem_sum_pairs_of ss c p k).4;
}

module _ (count : ℕ) (handed : List Summand) (i : ℕ) where
  -- the boxes that are given, and their outputs
  abbrev ss : List Summand
  ss = first_given count handed

  abbrev m : ℕ
  m = outputs_of ss

  -- the plain call's reply
  whole_is : reply_after (first (sum_checks count handed i)) (shown_best lower (each (components m i) (sum_pairs_of ss))) ≡ sum_reply count handed i
  unfolding sum_pairs
  whole_is = go (first (sum_checks count handed i)) refl
    where
      go : (k : Result ⊤ Refusal) → first (sum_checks count handed i) ≡ k
          → reply_after k (shown_best lower (each (components m i) (sum_pairs_of ss))) ≡ reply_after k (shown (sum_nonlinearity ss (components m i)))
      go (Ok tt) e =
          let one = first_mask m i (some_outputs count handed i e) (limit_low count handed i e) in
          ap (reply_after (Ok tt)) (shown_pairs ss (components m i) 1 (in_components m i 1 one))
      go (Err r) e = refl

  -- Merged replies that cover a part, and no other mask, are its reply,
  pub gathered_part : {p : ℕ → Bool} {x : Reply} → Gathered ltb m (sum_cut_reply count handed i) p x → (c : Cut m)
      → ((k : ℕ) → 1 ≤ k → k < 2 ^ m → p k ≡ in_range c.low c.high k) → x ≡ sum_cut_reply count handed i c
  unfolding sum_between sum_part_checks
  gathered_part = law.gathered_part ltb least by_least m i (sum_checks count handed i) (λ _. blocks ss) (sum_cut_reply count handed i) (λ c. refl)

  -- as of two parts side by side;
  pub adjacent : (x y z : Cut m) → y.low ≡ x.high + 1 → z.low ≡ x.low → z.high ≡ y.high
      → merged_reply ltb (sum_cut_reply count handed i x) (sum_cut_reply count handed i y) ≡ sum_cut_reply count handed i z
  unfolding sum_between sum_part_checks
  adjacent = law.adjacent ltb least by_least m i (sum_checks count handed i) (λ _. blocks ss) (sum_cut_reply count handed i) (λ c. refl)

  -- those that cover every mask from 1 to 2^m − 1 are the plain call's,
  pub gathered_whole : {p : ℕ → Bool} {x : Reply} → Gathered ltb m (sum_cut_reply count handed i) p x → ((k : ℕ) → 1 ≤ k → k < 2 ^ m → p k ≡ true)
      → x ≡ sum_reply count handed i
  unfolding sum_between sum_part_checks
  gathered_whole t all =
      law.gathered_whole ltb least by_least m i (sum_checks count handed i) (λ _. blocks ss) (sum_cut_reply count handed i) (λ c. refl) t all ∙ whole_is

  -- as of a loop over parts, in any order, that together have every mask from 1 to 2^m − 1, some of them more than once or not.
  pub parts_whole : (c : Cut m) (cs : List (Cut m)) → ((k : ℕ) → 1 ≤ k → k < 2 ^ m → Covered k (c ∷ cs))
      → merged_in_turn ltb (sum_cut_reply count handed i c) (replies (sum_cut_reply count handed i) cs) ≡ sum_reply count handed i
  unfolding sum_between sum_part_checks
  parts_whole c cs all =
      law.parts_whole ltb least by_least m i (sum_checks count handed i) (λ _. blocks ss) (sum_cut_reply count handed i) (λ c. refl) c cs all ∙ whole_is
