-- Sweeps in parts: the lines of their calls, and what merging does, in words.
use mathlib.Core.Path.{◌≡◌, refl, sym, subst}
use mathlib.Core.Logic.{◌⊎◌, inl, inr, ⊎_elim, ◌↔◌}
use mathlib.Core.Bool.{Bool, true, false, ◌&&◌, ◌||◌, false≢true}
use mathlib.Core.List.{List, [], ◌∷◌, ◌++◌}
use Prim.Native.Nat.{ℕ, ◌-◌, ◌^◌, ◌<◌}
use borrow.Author.Tests.{lt-ltb, ltb-true}
use lib.Count.{ones}
use lib.Dec.{ltb, eqb}
use Rattle.boolean.specs.Functions.{MaskBefore}
use Rattle.refusals.specs.Table.{Check, Reply, figures, refusal, in_range}
use Rattle.refusals.specs.Statements.{TableLine, ◌unless_that◌, Between, box_lines, limit_lines}
use Rattle.refusals.proofs.Means.{Means, line, void, end, range, same}
use Rattle.masks.specs.Parts.{part_lines, earlier, merged_figures, merged_reply}
use Rattle.masks.specs.Statements.{Cut, Gathered, single, both}
use Rattle.masks.proofs.Parts.{merged_nothing, merged_second, merged_first}
use Rattle.linear.specs.Nonlinearity.{part_checks}
use Rattle.avalanche.specs.Parts.{distance_part_checks}
use Rattle.claims.proofs.Calls as calls
use Rattle.rounds.specs.Round.{Summand, first_given, outputs_of, sum_part_checks}
use Rattle.claims.specs.Lines.{each_box_lines, EachOutputs}
use Rattle.claims.specs.Parts.{end_lines, MergesByOrder, MergedAnswers, of_part, of_two}

-- ---- the lines: the plain call's, and then those on the ends of the part
pub lines_after : {cs ds : List Check} {ls ks : List TableLine} → Means cs ls → Means ds ks → Means (cs ++ ds) (ls ++ ks)
lines_after end t = t
lines_after (line e more) t = line e (λ p. lines_after (more p) t)
lines_after (void e more) t = void e (lines_after more t)

pub ends_call : (m low high : ℕ) → Means (part_lines m low high) (end_lines m low high)
ends_call m low high = line (range 1 (2 ^ m - 1) low) (λ p. line (range low (2 ^ m - 1) high) (λ q. end))

pub part_call : (n m : ℕ) (rows : List ℕ) (i low high : ℕ)
    → Means (part_checks n m rows i low high) (limit_lines n m rows i ++ end_lines m low high)
unfolding part_checks
part_call n m rows i low high = lines_after (calls.limit_call n m rows i) (ends_call m low high)

pub distance_part_call : (n m : ℕ) (rows : List ℕ) (i j low high : ℕ)
    → Means (distance_part_checks n m rows i j low high)
    (box_lines 32 n m rows ((6 unless_that Between 1 m i) ∷ (6 unless_that Between 1 n j) ∷ []) ++ end_lines m low high)
unfolding distance_part_checks
distance_part_call n m rows i j low high = lines_after (calls.distance_call n m rows i j) (ends_call m low high)

pub sum_part_call : (count : ℕ) (handed : List Summand) (i low high : ℕ)
    → let boxes = first_given count handed in
    Means (sum_part_checks count handed i low high)
    (((11 unless_that Between 1 4 count)
    ∷ each_box_lines boxes ((12 unless_that EachOutputs (outputs_of boxes) boxes) ∷ (6 unless_that Between 1 (outputs_of boxes) i) ∷ []))
    ++ end_lines (outputs_of boxes) low high)
unfolding sum_part_checks
sum_part_call count handed i low high =
    lines_after (calls.sum_call count handed i) (ends_call (outputs_of (first_given count handed)) low high)

-- ---- merging
either : (s t : Bool) {P Q : Type 0} → (s ≡ true) ↔ P → (t ≡ true) ↔ Q → ((s || t) ≡ true) ↔ (P ⊎ Q)
either true t p q = (λ e. inl (p.0 refl), λ u. refl)
either false t p q = (λ e. inr (q.0 e), λ u. ⊎_elim (λ x. absurd (false≢true (p.1 x))) (λ y. q.1 y) u)

together : (s t : Bool) {P Q : Type 0} → (s ≡ true) ↔ P → (t ≡ true) ↔ Q → ((s && t) ≡ true) ↔ (P × Q)
together true t p q = (λ e. (p.0 refl, q.0 e), λ u. q.1 u.1)
together false t p q = (λ e. absurd (false≢true e), λ u. absurd (false≢true (p.1 u.0)))

pub less : (a b : ℕ) → (ltb a b ≡ true) ↔ (a < b)
less a b = (ltb-true a b, lt-ltb a b)

earlier_exactly : (d c : ℕ) → (earlier d c ≡ true) ↔ MaskBefore d c
earlier_exactly d c =
    either (ltb (ones d) (ones c)) (eqb (ones d) (ones c) && ltb d c) (less (ones d) (ones c))
    (together (eqb (ones d) (ones c)) (ltb d c) (same (ones d) (ones c)) (less d c))

module _ (before : ℕ → ℕ → Bool) {Better : (y x : ℕ) → Type 0} (exactly : (y x : ℕ) → (before y x ≡ true) ↔ Better y x) where
  taken_exactly : (x c y d : ℕ) → ((before y x || (eqb y x && earlier d c)) ≡ true) ↔ (Better y x ⊎ ((y ≡ x) × MaskBefore d c))
  taken_exactly x c y d =
      either (before y x) (eqb y x && earlier d c) (exactly y x) (together (eqb y x) (earlier d c) (same y x) (earlier_exactly d c))

  nothing_after : (x : Reply) → merged_reply before x (figures []) ≡ x
  unfolding merged_figures
  nothing_after (refusal k) = refl
  nothing_after (figures []) = refl
  nothing_after (figures (x ∷ xs)) = refl

  pub merges_by_order : MergesByOrder Better (merged_reply before)
  merges_by_order = record {
    refused_first = λ k y. refl;
    refused_second = λ xs k. refl;
    nothing_first = merged_nothing before;
    nothing_second = nothing_after;
    takes_second = λ x c v y d w h. merged_second before x (c ∷ v) y (d ∷ w) ((taken_exactly x c y d).1 h);
    keeps_first = λ x c v y d w h. merged_first before x (c ∷ v) y (d ∷ w) (not_taken (before y x || (eqb y x && earlier d c)) (λ e. h ((taken_exactly x c y d).0 e)));
  }
    where
      not_taken : (t : Bool) → ¬ (t ≡ true) → t ≡ false
      not_taken true h = absurd (h refl)
      not_taken false h = refl

-- merged answers say merged replies
pub says_gathered : {A : Type 0} {says : A → Reply} {before : ℕ → ℕ → Bool} {m : ℕ} {reply : Cut m → Reply} {p : ℕ → Bool} {r : A}
    → MergedAnswers says before m reply p r → Gathered before m reply p (says r)
says_gathered {before = before} {m = m} {reply = reply} (of_part c a e) =
    subst (λ (x : Reply). Gathered before m reply (λ k. in_range c.low c.high k) x) (sym e) (single c)
says_gathered {before = before} {m = m} {reply = reply} (of_two {p} {q} s t r e) =
    subst (λ (x : Reply). Gathered before m reply (λ k. p k || q k) x) (sym e) (both (says_gathered s) (says_gathered t))
