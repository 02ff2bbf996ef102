-- The autocorrelation and the dynamic distance by parts: merging the replies of parts, cut anywhere, in any order and grouping, gives the plain call's
-- reply. It is the law of sweeps in parts (masks, proofs/Gathering), of the changes.
use Rattle.std.specs.Prelude.{Result, Ok, Err, ⊤}
use Rattle.refusals.specs.declared.Refusal.{Refusal}
use mathlib.Core.Path.{◌≡◌, refl, ap, ◌∙◌}
use mathlib.Core.Bool.{Bool, true}
use mathlib.Core.List.{List, ◌∷◌, ◌++◌}
use Prim.Native.Nat.{ℕ, ◌^◌, ◌≤◌, ◌<◌}
use Rattle.boolean.specs.Functions.{components}
use Rattle.boolean.specs.Selection.{shown, higher, first_largest}
use Rattle.boolean.specs.Sums.{each}
use Rattle.boolean.proofs.Selection.{largest, by_largest}
use Rattle.refusals.specs.Table.{Check, Reply, reply_after, first, limit_checks, in_range}
use Rattle.refusals.proofs.Checks.{limited}
use Rattle.masks.specs.Parts.{above, part_lines, shown_best, best_between, merged_in_turn}
use Rattle.masks.specs.Statements.{Cut, Gathered, Covered, replies}
use Rattle.masks.proofs.Gathering as law
use Rattle.linear.specs.Nonlinearity.{part_checks}
use Rattle.avalanche.specs.Avalanche.{measured, changes_of, correlated, box_autocorrelation, autocorrelation_between, dynamic_distance, distance_between}
use Rattle.avalanche.specs.Calls.{distance_checks, autocorrelation_reply, distance_reply}
use Rattle.avalanche.specs.Parts.{distance_part_checks}
use Rattle.avalanche.specs.Statements.{autocorrelation_cut, distance_cut, distance_of}
use Rattle.avalanche.proofs.Changes.{measured_first}
use Rattle.avalanche.proofs.Distance.{distance_box, outputs_low, inputs_low}
use Rattle.avalanche.proofs.Ranges.{shown_largest}
use Rattle.avalanche.proofs.Widest.{blocks}

-- a figure of each component within i and each change within j, by a call's checks, which ask that there is one
module _ (n m i j : ℕ) (figure : ℕ → ℕ → ℕ) (checks : List Check) (some : first checks ≡ (Ok tt) → (1 ≤ n) × (1 ≤ m) × (1 ≤ i) × (1 ≤ j))
    (reply : Cut m → Reply)
    (is : (c : Cut m) → reply c ≡ reply_after (first (checks ++ part_lines m c.low c.high))
    (best_between higher m i c.low c.high (changes_of n j figure))) where
  part_is : {p : ℕ → Bool} {x : Reply} → Gathered above m reply p x → (c : Cut m)
      → ((k : ℕ) → 1 ≤ k → k < 2 ^ m → p k ≡ in_range c.low c.high k) → x ≡ reply c
  part_is = law.gathered_part above largest by_largest m i checks (λ ok. blocks n j figure (some ok).0 (some ok).3) reply is

  -- the plain call's reply
  all_is : reply_after (first checks) (shown_best higher (each (components m i) (changes_of n j figure)))
      ≡ reply_after (first checks) (shown (first_largest (measured n m i j figure)))
  unfolding measured
  all_is = go (first checks) refl
    where
      go : (k : Result ⊤ Refusal) → first checks ≡ k → reply_after k (shown_best higher (each (components m i) (changes_of n j figure)))
          ≡ reply_after k (shown (first_largest (measured n m i j figure)))
      go (Ok tt) e =
          let l = some e in
          ap (reply_after (Ok tt)) (shown_largest (each (components m i) (changes_of n j figure)) (measured_first n m i j figure l.0 l.1 l.2 l.3).1)
      go (Err r) e = refl

  whole_is : {p : ℕ → Bool} {x : Reply} → Gathered above m reply p x → ((k : ℕ) → 1 ≤ k → k < 2 ^ m → p k ≡ true)
      → x ≡ reply_after (first checks) (shown (first_largest (measured n m i j figure)))
  whole_is t all = law.gathered_whole above largest by_largest m i checks (λ ok. blocks n j figure (some ok).0 (some ok).3) reply is t all ∙ all_is

-- ---- the autocorrelation
module _ (n m : ℕ) (rows : List ℕ) (i : ℕ) where
  limit_some : first (limit_checks n m rows i) ≡ (Ok tt) → (1 ≤ n) × (1 ≤ m) × (1 ≤ i) × (1 ≤ n)
  limit_some ok = let l = limited n m rows i ok in (l.box.n_low, l.box.m_low, l.i_low, l.box.n_low)

  -- Merged replies that cover a part, and no other mask, are its reply,
  pub autocorrelation_part : {p : ℕ → Bool} {x : Reply} → Gathered above m (autocorrelation_cut n m rows i) p x → (c : Cut m)
      → ((k : ℕ) → 1 ≤ k → k < 2 ^ m → p k ≡ in_range c.low c.high k) → x ≡ autocorrelation_cut n m rows i c
  unfolding autocorrelation_between part_checks
  autocorrelation_part = part_is n m i n (correlated n rows) (limit_checks n m rows i) limit_some (autocorrelation_cut n m rows i) (λ c. refl)

  -- those that cover every mask from 1 to 2^m − 1 are the plain call's,
  pub autocorrelation_whole : {p : ℕ → Bool} {x : Reply} → Gathered above m (autocorrelation_cut n m rows i) p x
      → ((k : ℕ) → 1 ≤ k → k < 2 ^ m → p k ≡ true) → x ≡ autocorrelation_reply n m rows i
  unfolding autocorrelation_between box_autocorrelation part_checks
  autocorrelation_whole = whole_is n m i n (correlated n rows) (limit_checks n m rows i) limit_some (autocorrelation_cut n m rows i) (λ c. refl)

  -- as of a loop over parts, in any order, that together have every mask from 1 to 2^m − 1, some of them more than once or not.
  pub autocorrelation_parts : (c : Cut m) (cs : List (Cut m)) → ((k : ℕ) → 1 ≤ k → k < 2 ^ m → Covered k (c ∷ cs))
      → merged_in_turn above (autocorrelation_cut n m rows i c) (replies (autocorrelation_cut n m rows i) cs) ≡ autocorrelation_reply n m rows i
  autocorrelation_parts c cs all =
      let t = law.turns_gathered above (autocorrelation_cut n m rows i) c cs in
      autocorrelation_whole t.1 (λ k l h. t.2 k (all k l h))

-- ---- the dynamic distance, likewise
module _ (n m : ℕ) (rows : List ℕ) (i j : ℕ) where
  order_some : first (distance_checks n m rows i j) ≡ (Ok tt) → (1 ≤ n) × (1 ≤ m) × (1 ≤ i) × (1 ≤ j)
  order_some ok =
      let b = distance_box n m rows i j ok in
      (b.n_low, b.m_low, outputs_low n m rows i j ok, inputs_low n m rows i j ok)

  pub distance_part : {p : ℕ → Bool} {x : Reply} → Gathered above m (distance_cut n m rows i j) p x → (c : Cut m)
      → ((k : ℕ) → 1 ≤ k → k < 2 ^ m → p k ≡ in_range c.low c.high k) → x ≡ distance_cut n m rows i j c
  unfolding distance_between distance_part_checks
  distance_part = part_is n m i j (distance_of n rows) (distance_checks n m rows i j) order_some (distance_cut n m rows i j) (λ c. refl)

  pub distance_whole : {p : ℕ → Bool} {x : Reply} → Gathered above m (distance_cut n m rows i j) p x
      → ((k : ℕ) → 1 ≤ k → k < 2 ^ m → p k ≡ true) → x ≡ distance_reply n m rows i j
  unfolding distance_between dynamic_distance distance_part_checks
  distance_whole = whole_is n m i j (distance_of n rows) (distance_checks n m rows i j) order_some (distance_cut n m rows i j) (λ c. refl)

  pub distance_parts : (c : Cut m) (cs : List (Cut m)) → ((k : ℕ) → 1 ≤ k → k < 2 ^ m → Covered k (c ∷ cs))
      → merged_in_turn above (distance_cut n m rows i j c) (replies (distance_cut n m rows i j) cs) ≡ distance_reply n m rows i j
  distance_parts c cs all =
      let t = law.turns_gathered above (distance_cut n m rows i j) c cs in
      distance_whole t.1 (λ k l h. t.2 k (all k l h))
