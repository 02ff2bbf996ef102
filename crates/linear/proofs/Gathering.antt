-- The nonlinearity by parts: merging the replies of parts, cut anywhere, in any order and grouping, gives the plain call's reply. It is the law of sweeps in
-- parts (masks, proofs/Gathering), of the pairs.
use Rattle.std.specs.Prelude.{Result, Ok, Err, ⊤}
use Rattle.refusals.specs.declared.Refusal.{Refusal}
use mathlib.Core.Path.{◌≡◌, refl, ap, ◌∙◌}
use mathlib.Core.Bool.{Bool, true}
use mathlib.Core.List.{List, ◌∷◌}
use Prim.Native.Nat.{ℕ, ◌+◌, ◌^◌, ◌≤◌, ◌<◌}
use lib.Dec.{ltb}
use Rattle.boolean.specs.Functions.{components}
use Rattle.boolean.specs.Selection.{shown, lower}
use Rattle.boolean.specs.Sums.{each}
use Rattle.boolean.proofs.Selection.{least, by_least}
use Rattle.refusals.specs.Table.{Reply, reply_after, first, limit_checks, in_range}
use Rattle.refusals.proofs.Checks.{limited}
use Rattle.masks.specs.Parts.{shown_best, merged_reply, merged_in_turn}
use Rattle.masks.specs.Statements.{Cut, Gathered, Covered, replies}
use Rattle.masks.proofs.Gathering as law
use Rattle.linear.specs.Nonlinearity.{pairs_of, pairs, nonlinearity, nonlinearity_reply, nonlinearity_between, part_checks}
use Rattle.linear.specs.Statements.{nonlinearity_cut}
use Rattle.linear.proofs.Nearest.{blocks}
use Rattle.linear.proofs.Pairs.{pairs_nonempty}
use Rattle.linear.proofs.Ranges.{shown_least}

module _ (n m : ℕ) (rows : List ℕ) (i : ℕ) where
  -- the plain call's reply
  whole_is : reply_after (first (limit_checks n m rows i)) (shown_best lower (each (components m i) (pairs_of n rows))) ≡ nonlinearity_reply n m rows i
  unfolding nonlinearity pairs
  whole_is = go (first (limit_checks n m rows i)) refl
    where
      go : (k : Result ⊤ Refusal) → first (limit_checks n m rows i) ≡ k
          → reply_after k (shown_best lower (each (components m i) (pairs_of n rows))) ≡ reply_after k (shown (nonlinearity n m rows i))
      go (Ok tt) e =
          let l = limited n m rows i e in
          ap (reply_after (Ok tt)) (shown_least (each (components m i) (pairs_of n rows)) (pairs_nonempty n m rows i l.box.m_low l.i_low).2)
      go (Err r) e = refl

  -- Merged replies that cover a part, and no other mask, are its reply,
  pub gathered_part : {p : ℕ → Bool} {x : Reply} → Gathered ltb m (nonlinearity_cut n m rows i) p x → (c : Cut m)
      → ((k : ℕ) → 1 ≤ k → k < 2 ^ m → p k ≡ in_range c.low c.high k) → x ≡ nonlinearity_cut n m rows i c
  unfolding nonlinearity_between part_checks
  gathered_part = law.gathered_part ltb least by_least m i (limit_checks n m rows i) (λ _. blocks n rows) (nonlinearity_cut n m rows i) (λ c. refl)

  -- as of two parts side by side;
  pub adjacent : (x y z : Cut m) → y.low ≡ x.high + 1 → z.low ≡ x.low → z.high ≡ y.high
      → merged_reply ltb (nonlinearity_cut n m rows i x) (nonlinearity_cut n m rows i y) ≡ nonlinearity_cut n m rows i z
  unfolding nonlinearity_between part_checks
  adjacent = law.adjacent ltb least by_least m i (limit_checks n m rows i) (λ _. blocks n rows) (nonlinearity_cut n m rows i) (λ c. refl)

  -- those that cover every mask from 1 to 2^m − 1 are the plain call's,
  pub gathered_whole : {p : ℕ → Bool} {x : Reply} → Gathered ltb m (nonlinearity_cut n m rows i) p x → ((k : ℕ) → 1 ≤ k → k < 2 ^ m → p k ≡ true)
      → x ≡ nonlinearity_reply n m rows i
  unfolding nonlinearity_between part_checks
  gathered_whole t all =
      law.gathered_whole ltb least by_least m i (limit_checks n m rows i) (λ _. blocks n rows) (nonlinearity_cut n m rows i) (λ c. refl) t all ∙ whole_is

  -- as of a loop over parts, in any order, that together have every mask from 1 to 2^m − 1, some of them more than once or not.
  pub parts_whole : (c : Cut m) (cs : List (Cut m)) → ((k : ℕ) → 1 ≤ k → k < 2 ^ m → Covered k (c ∷ cs))
      → merged_in_turn ltb (nonlinearity_cut n m rows i c) (replies (nonlinearity_cut n m rows i) cs) ≡ nonlinearity_reply n m rows i
  unfolding nonlinearity_between part_checks
  parts_whole c cs all =
      law.parts_whole ltb least by_least m i (limit_checks n m rows i) (λ _. blocks n rows) (nonlinearity_cut n m rows i) (λ c. refl) c cs all ∙ whole_is
