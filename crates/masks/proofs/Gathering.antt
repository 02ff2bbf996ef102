-- A sweep in parts: merging the replies of parts, cut anywhere, in any order and grouping, gives the reply of the call over all masks that they cover. One
-- law, whatever is measured: by any comparison of figures, any blocks of candidates and any checks. Assumes nothing.
use Rattle.std.specs.Prelude.{Result, Ok, Err, ⊤}
use mathlib.Core.Path.{◌≡◌, refl, sym, ap, ap₂, ◌∙◌}
use mathlib.Core.Logic.{◌⊎◌, inl, inr, ⊎_elim}
use mathlib.Core.Bool.{Bool, true, false, ◌&&◌, ◌||◌}
use mathlib.Core.List.Memᴰ
use mathlib.Core.List.{List, [], ◌∷◌, ◌++◌}
use Prim.Native.Nat.{ℕ, ◌+◌, ◌-◌, ◌^◌, ◌≤◌, ◌<◌}
use native.Mathlib.Decide.{dec_lt}
use native.Mathlib.Omega.{arith}
use borrow.Author.Tests.{le-leb, lt-leb}
use lib.Dec.{leb}
use lib.Pow.{pow_pos}
use Rattle.boolean.specs.Functions.{components}
use Rattle.boolean.specs.Selection.{Candidate}
use Rattle.boolean.specs.Statements.{Ordered, ByFigure}
use Rattle.boolean.specs.Sums.{each}
use Rattle.boolean.proofs.Selection.{of_cons}
use Rattle.refusals.specs.Table.{Check, Reply, refusal, number, reply_after, first, in_range}
use Rattle.refusals.specs.declared.Refusal.{Refusal}
use Rattle.refusals.proofs.Bounds.{range_low, range_high, range_true}
use Rattle.refusals.proofs.Checks.{passed, accepted, accepted_before, accepted_after, first_append, first_refused}
use Rattle.masks.specs.Parts.{part_lines, components_between, shown_best, best_between, merged_reply, merged_in_turn}
use Rattle.masks.specs.Statements.{Blocks, Cut, Gathered, single, both, Covered, replies}
use Rattle.masks.proofs.Parts.{found_over, merged_over, same_over, whole_over, merged_after}

-- ---- the lines on the part
module _ (checks : List Check) (m low high : ℕ) where
  -- an accepted part lies from 1 to 2^m − 1
  pub part_lies : first (checks ++ part_lines m low high) ≡ (Ok tt) → (first checks ≡ (Ok tt)) × (1 ≤ low) × (low ≤ high) × (high < 2 ^ m)
  part_lies h =
      let p = passed (part_lines m low high) (accepted_after checks (part_lines m low high) h) in (
        accepted_before checks (part_lines m low high) h,
        range_low 1 (2 ^ m - 1) low p.0,
        range_low low (2 ^ m - 1) high p.1.0,
        omega (arith, range_high low (2 ^ m - 1) high p.1.0, pow_pos m),
      )

  -- and one that does is checked as the plain call is
  pub part_checked : 1 ≤ low → low ≤ high → high < 2 ^ m → first (checks ++ part_lines m low high) ≡ first checks
  part_checked l s h = go (first checks) refl
    where
      go : (k : Result ⊤ Refusal) → first checks ≡ k → first (checks ++ part_lines m low high) ≡ first checks
      go (Ok tt) e =
          first_append checks (part_lines m low high) e
          ∙ accepted (part_lines m low high) (range_true 1 (2 ^ m - 1) low l (omega arith), (range_true low (2 ^ m - 1) high s (omega arith), tt)) ∙ sym e
      go (Err r) e = first_refused checks (part_lines m low high) e ∙ sym e

-- ---- replies merged one after the other are merged in a grouping, and which masks they are of
module _ (before : ℕ → ℕ → Bool) {m : ℕ} (reply : Cut m → Reply) where
  pub turns_gathered : (c : Cut m) (cs : List (Cut m))
      → (q : ℕ → Bool) × Gathered before m reply q (merged_in_turn before (reply c) (replies reply cs)) × ((k : ℕ) → Covered k (c ∷ cs) → q k ≡ true)
  turns_gathered c cs = let t = fold cs _ _ (single c) in (t.0, t.1, λ k u. t.2 k (lies u))
    where
      fold : (ds : List (Cut m)) (p : ℕ → Bool) (x : Reply) → Gathered before m reply p x
          → (q : ℕ → Bool) × Gathered before m reply q (merged_in_turn before x (replies reply ds)) × ((k : ℕ) → (p k ≡ true) ⊎ Covered k ds → q k ≡ true)
      fold [] p x g = (p, g, λ k h. ⊎_elim (λ e. e) (λ t. absurd (Memᴰ.not-nil t.1)) h)
      fold (d ∷ ds) p x g =
          let t = fold ds _ _ (both g (single d)) in
          (t.0, t.1, λ k h. t.2 k (⊎_elim (λ e. inl (or_left (p k) (in_range d.low d.high k) e)) (λ u. next k u) h))
        where
          or_left : (s t : Bool) → s ≡ true → (s || t) ≡ true
          or_left true t e = refl
          or_left false t e = cc

          or_right : (s t : Bool) → t ≡ true → (s || t) ≡ true
          or_right true t e = refl
          or_right false t e = e

          next : (k : ℕ) → Covered k (d ∷ ds) → ((p k || in_range d.low d.high k) ≡ true) ⊎ Covered k ds
          next k u = of_cons (λ z. (z.low ≤ k) × (k ≤ z.high) → ((p k || in_range d.low d.high k) ≡ true) ⊎ Covered k ds)
              (λ v. inl (or_right (p k) _ (range_true d.low d.high k v.0 v.1))) (λ j v. inr (u.0, j, v.0, v.1)) u.1 (u.2, u.3)

      lies : {k : ℕ} → Covered k (c ∷ cs) → (in_range c.low c.high k ≡ true) ⊎ Covered k cs
      lies {k} u = of_cons (λ z. (z.low ≤ k) × (k ≤ z.high) → (in_range c.low c.high k ≡ true) ⊎ Covered k cs)
          (λ v. inl (range_true c.low c.high k v.0 v.1)) (λ j v. inr (u.0, j, v.0, v.1)) u.1 (u.2, u.3)

-- ---- the law
module _ (before : ℕ → ℕ → Bool) {R S : Candidate → Candidate → Type 0} (o : Ordered (λ c b. before c.figure b.figure) R S) (g : ByFigure R S)
    (m i : ℕ) {f : ℕ → List Candidate} (checks : List Check) (b : first checks ≡ (Ok tt) → Blocks f) (reply : Cut m → Reply)
    (is : (c : Cut m) → reply c ≡ reply_after (first (checks ++ part_lines m c.low c.high))
    (best_between (λ c b. before c.figure b.figure) m i c.low c.high f)) where
  abbrev over : (ℕ → Bool) → List ℕ
  over p = found_over before m i f p

  cut_is : (c : Cut m) → reply c ≡ reply_after (first checks) (over (λ x. in_range c.low c.high x))
  unfolding best_between components_between
  cut_is c =
      is c ∙ ap (λ (k : Result ⊤ Refusal). reply_after k (over (λ x. in_range c.low c.high x))) (part_checked checks m c.low c.high c.from_one c.some c.below)

  -- a refused call is refused in every part
  refused_is : {e : Refusal} → first checks ≡ Err e → {p : ℕ → Bool} {x : Reply} → Gathered before m reply p x → x ≡ refusal (number e)
  refused_is stops (single c) = cut_is c ∙ ap (λ (k : Result ⊤ Refusal). reply_after k (over (λ x. in_range c.low c.high x))) stops
  refused_is stops (both s t) = ap₂ (merged_reply before) (refused_is stops s) (refused_is stops t)

  accepted_is : first checks ≡ (Ok tt) → {p : ℕ → Bool} {x : Reply} → Gathered before m reply p x → x ≡ reply_after (first checks) (over p)
  accepted_is ok (single c) = cut_is c
  accepted_is ok (both {p} {q} s t) =
      ap₂ (merged_reply before) (accepted_is ok s) (accepted_is ok t)
      ∙ merged_after before (first checks) (over p) (over q)
      ∙ ap (reply_after (first checks)) (merged_over before o g m i (b ok) p q)

  gathered_is : {p : ℕ → Bool} {x : Reply} → Gathered before m reply p x → x ≡ reply_after (first checks) (over p)
  gathered_is {p} {x} t = go (first checks) refl
    where
      go : (k : Result ⊤ Refusal) → first checks ≡ k → x ≡ reply_after k (over p)
      go (Ok tt) e = accepted_is e t ∙ ap (λ (k : Result ⊤ Refusal). reply_after k (over p)) e
      go (Err r) e = refused_is e t

  -- merged replies that cover a part, and no other mask, are its reply
  pub gathered_part : {p : ℕ → Bool} {x : Reply} → Gathered before m reply p x → (c : Cut m)
      → ((k : ℕ) → 1 ≤ k → k < 2 ^ m → p k ≡ in_range c.low c.high k) → x ≡ reply c
  gathered_part {p} t c same =
      gathered_is t
      ∙ ap (reply_after (first checks)) (same_over before m i f p (λ x. in_range c.low c.high x) (λ k w. same k w.low w.high))
      ∙ sym (cut_is c)

  -- so are those of two parts side by side
  pub adjacent : (x y z : Cut m) → y.low ≡ x.high + 1 → z.low ≡ x.low → z.high ≡ y.high → merged_reply before (reply x) (reply y) ≡ reply z
  adjacent x y z next low high =
      gathered_part (both (single x) (single y)) z (λ k l h.
      side k (dec_lt x.high k)
      ∙ ap₂ (λ (u v : ℕ). in_range u v k) (sym low) (sym high))
    where
      plain : (t : Bool) → ((t && true) || false) ≡ (t && true)
      plain true = refl
      plain false = refl

      side : (k : ℕ) → Dec (x.high < k) → (in_range x.low x.high k || in_range y.low y.high k) ≡ in_range x.low y.high k
      side k (yes h) =
          let low : leb x.low k ≡ true = le-leb x.low k (omega (arith, x.some)) in
          let not_first : leb k x.high ≡ false = lt-leb k x.high h in
          let second : leb y.low k ≡ true = le-leb y.low k (omega arith) in
          ap₂ (λ (s t : Bool). (s && t) || (leb y.low k && leb k y.high)) low not_first
          ∙ ap (λ (t : Bool). t && leb k y.high) second ∙ sym (ap (λ (t : Bool). t && leb k y.high) low)
      side k (no h) =
          let first_end : leb k x.high ≡ true = le-leb k x.high (omega arith) in
          let not_second : leb y.low k ≡ false = lt-leb y.low k (omega arith) in
          let end : leb k y.high ≡ true = le-leb k y.high (omega (arith, y.some)) in
          ap₂ (λ (s t : Bool). (leb x.low k && s) || (t && leb k y.high)) first_end not_second
          ∙ plain (leb x.low k) ∙ sym (ap (λ (t : Bool). leb x.low k && t) end)

  -- and those that cover every mask from 1 to 2^m − 1 are the plain call's, whether it is accepted or refused
  pub gathered_whole : {p : ℕ → Bool} {x : Reply} → Gathered before m reply p x → ((k : ℕ) → 1 ≤ k → k < 2 ^ m → p k ≡ true)
      → x ≡ reply_after (first checks) (shown_best (λ c b. before c.figure b.figure) (each (components m i) f))
  gathered_whole {p} t all = gathered_is t ∙ ap (reply_after (first checks)) (whole_over before m i f p (λ k w. all k w.low w.high))

  -- A loop over parts, in any order, that together have every mask from 1 to 2^m − 1, some of them more than once or not, ends with the plain call's
  -- reply.
  pub parts_whole : (c : Cut m) (cs : List (Cut m)) → ((k : ℕ) → 1 ≤ k → k < 2 ^ m → Covered k (c ∷ cs))
      → merged_in_turn before (reply c) (replies reply cs) ≡ reply_after (first checks) (shown_best (λ c b. before c.figure b.figure) (each (components m i) f))
  parts_whole c cs all = let t = turns_gathered before reply c cs in gathered_whole t.1 (λ k l h. t.2 k (all k l h))
