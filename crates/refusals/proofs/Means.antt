-- The tests of a call's checks are the conditions of its lines: so its reply, and what it writes, are by the lines.
use Rattle.std.specs.Prelude.{Result, Ok, Err, ⊤}
use Prim.Native.Nat.{ℕ, ◌^◌, ◌≤◌, ◌<◌}
use mathlib.Core.Path.{◌≡◌, refl, sym, ap, ◌∙◌, subst}
use mathlib.Core.Logic.{inl, inr, ⊎_elim, ◌↔◌}
use mathlib.Core.Bool.{Bool, true, false, false≢true}
use mathlib.Core.List.{List, [], ◌∷◌, ◌++◌}
use borrow.Author.Tests.{eqb-true, eq-eqb, ltb-true, lt-ltb, leb-true, le-leb}
use lib.Dec.{eqb, ltb, leb}
use lib.ListN.{length}
use Rattle.boolean.specs.Functions.{at}
use Rattle.boolean.specs.Sums.{distinct}
use Rattle.boolean.proofs.Distinct.{distinct_at, distinct_of}
use Rattle.boolean.proofs.Every.{every_at, every_of}
use Rattle.refusals.specs.Table.{Check, ◌unless◌, number, first, in_range, all_below, box_checks_up_to, table_checks, Reply, figures}
use Rattle.refusals.specs.Table.{refusal, reply_after, after, Wrote}
use Rattle.refusals.specs.declared.Refusal.{Refusal}
use Rattle.refusals.proofs.Bounds.{range_low, range_high, range_true}
use Rattle.refusals.proofs.Replies.{no_figures}
use Rattle.refusals.specs.Statements.{TableLine, ◌unless_that◌, FirstMet, NoneMet, Answers, Writes, Between, EachBelow, NoTwoEqual, box_lines}
use Rattle.refusals.specs.Statements.{table_lines}

-- the checks are the lines, one by one; the tests of the later ones may use that the earlier ones hold
pub data Means : List Check → List TableLine → Type 1 where
  end : Means [] []
  line : {e : Refusal} {ok : Bool} {P : Type 0} {cs : List Check} {ls : List TableLine} → (ok ≡ true) ↔ P → (P → Means cs ls)
      → Means ((e unless ok) ∷ cs) ((number e unless_that P) ∷ ls)
  -- a check that always holds is no line
  void : {e : Refusal} {ok : Bool} {cs : List Check} {ls : List TableLine} → ok ≡ true → Means cs ls → Means ((e unless ok) ∷ cs) ls

-- what the checks find
abbrev Finds : Result ⊤ Refusal → List TableLine → Type 0
Finds (Ok tt) ls = NoneMet ls
Finds (Err e) ls = FirstMet (number e) ls

finds_line : (ok : Bool) (e : Refusal) (P : Type 0) (cs : List Check) (ls : List TableLine) → (ok ≡ true) ↔ P → (P → Finds (first cs) ls)
    → Finds (first ((e unless ok) ∷ cs)) ((number e unless_that P) ∷ ls)
unfolding first
finds_line true e P cs ls t h = next (first cs) (h (t.0 refl))
  where
    next : (k : Result ⊤ Refusal) → Finds k ls → Finds k ((number e unless_that P) ∷ ls)
    next (Ok tt) f = (t.0 refl, f)
    next (Err r) f = inr (t.0 refl, f)
finds_line false e P cs ls t h = inl (refl, λ p. false≢true (t.1 p))

finds_void : (ok : Bool) (e : Refusal) (cs : List Check) (ls : List TableLine) → ok ≡ true → Finds (first cs) ls
    → Finds (first ((e unless ok) ∷ cs)) ls
unfolding first
finds_void true e cs ls t h = h
finds_void false e cs ls t h = absurd (false≢true t)

pub finds : {cs : List Check} {ls : List TableLine} → Means cs ls → Finds (first cs) ls
unfolding first
finds end = tt
finds (line {e} {ok} {P} {cs} {ls} t more) = finds_line ok e P cs ls t (λ p. finds (more p))
finds (void {e} {ok} {cs} {ls} t more) = finds_void ok e cs ls t (finds more)

-- one line is the first that is met, or none is
not_both : (ls : List TableLine) (k : ℕ) → NoneMet ls → FirstMet k ls → ⊥
not_both [] k n g = g
not_both ((j unless_that P) ∷ ls) k n g = ⊎_elim (λ t. t.1 n.0) (λ t. not_both ls k n.1 t.1) g

one_number : (ls : List TableLine) (j k : ℕ) → FirstMet j ls → FirstMet k ls → j ≡ k
one_number [] j k g h = absurd g
one_number ((i unless_that P) ∷ ls) j k g h =
    ⊎_elim (λ a. ⊎_elim (λ b. a.0 ∙ sym b.0) (λ b. absurd (a.1 b.0)) h)
    (λ a. ⊎_elim (λ b. absurd (b.1 a.0)) (λ b. one_number ls j k a.1 b.1) h) g

abbrev pub the_number : Reply → ℕ
the_number (figures given) = 0
the_number (refusal k) = k

answers_by : (k : Result ⊤ Refusal) (given : List ℕ) (ls : List TableLine) → Finds k ls → Answers (reply_after k given) given ls
answers_by (Ok tt) given ls f = record {
  figures_exactly = (λ e. f, λ n. refl);
  refused_exactly = λ k. (λ e. absurd (no_figures e), λ g. absurd (not_both ls k f g));
  one_of_them = inl refl;
}
answers_by (Err r) given ls f = record {
  figures_exactly = (λ e. absurd (no_figures (sym e)), λ n. absurd (not_both ls (number r) n f));
  refused_exactly = λ k. (λ e. subst (λ (j : ℕ). FirstMet j ls) (ap the_number e) f, λ g. ap refusal (one_number ls (number r) k f g));
  one_of_them = inr (number r, refl);
}

-- so a call's reply is by the lines, and what it writes too
pub answers : {cs : List Check} {ls : List TableLine} → Means cs ls → (given : List ℕ) → Answers (reply_after (first cs) given) given ls
answers {cs} {ls} t given = answers_by (first cs) given ls (finds t)

pub answered : {cs : List Check} {ls : List TableLine} {given : List ℕ} {said : Reply} → Means cs ls → said ≡ reply_after (first cs) given
    → Answers said given ls
answered {given = given} t e = rw e (answers t given)

pub writes : {A : Type 0} {cs : List Check} {ls : List TableLine} {given : List ℕ} {result before left : List A} {said : Reply} → Means cs ls
    → Wrote cs given result before said left → Writes said given ls result before left
writes {A} {cs} {ls} {given} {result} {before} {left} {said} t w = by (first cs) (finds t) w.reply w.content
  where
    by : (k : Result ⊤ Refusal) → Finds k ls → said ≡ reply_after k given → left ≡ after k result before
        → Writes said given ls result before left
    by (Ok tt) f r l = record {
      answers = rw r (answers_by (Ok tt) given ls f);
      result_left = λ n. l;
      nothing_changed = λ k g. absurd (not_both ls k f g);
    }
    by (Err e) f r l = record {
      answers = rw r (answers_by (Err e) given ls f);
      result_left = λ n. absurd (not_both ls (number e) n f);
      nothing_changed = λ k g. l;
    }

-- ---- the tests
pub range : (lo hi a : ℕ) → (in_range lo hi a ≡ true) ↔ Between lo hi a
range lo hi a = (λ h. (range_low lo hi a h, range_high lo hi a h), λ p. range_true lo hi a p.0 p.1)

pub same : (a b : ℕ) → (eqb a b ≡ true) ↔ (a ≡ b)
same a b = (eqb-true a b, eq-eqb a b)

pub less : (a b : ℕ) → (ltb a b ≡ true) ↔ (a < b)
less a b = (ltb-true a b, lt-ltb a b)

pub at_most : (a b : ℕ) → (leb a b ≡ true) ↔ (a ≤ b)
at_most a b = (leb-true a b, le-leb a b)

pub below : (limit : ℕ) (xs : List ℕ) → (all_below limit xs ≡ true) ↔ EachBelow limit xs
below limit xs = (
  λ h x l. ltb-true (at xs x) limit (every_at (λ y. ltb y limit) 0 xs h x l),
  λ h. every_of (λ y. ltb y limit) 0 xs (λ x l. lt-ltb (at xs x) limit (h x l)),
)

pub unlike : (xs : List ℕ) → (distinct eqb xs ≡ true) ↔ NoTwoEqual xs
unlike xs = (distinct_at xs, distinct_of xs)

pub box_means : (most n m : ℕ) (rows : List ℕ) {cs : List Check} {ls : List TableLine}
    → (Between 1 8 n → Between 1 most m → length rows ≡ 2 ^ n → Means cs ls)
    → Means (box_checks_up_to most n m rows ++ cs) (box_lines most n m rows ls)
box_means most n m rows more =
    line (range 1 8 n) (λ a. line (range 1 most m) (λ b. line (same (length rows) (2 ^ n))
    (λ c. line (below (2 ^ m) rows) (λ d. more a b c))))

pub table_means : (n : ℕ) (table : List ℕ) {cs : List Check} {ls : List TableLine} → Means cs ls
    → Means (table_checks n table ++ cs) (table_lines n table ls)
table_means n table more = line (range 1 8 n) (λ a. line (same (length table) (2 ^ n)) (λ b. line (below 2 table) (λ c. more)))

-- lines after lines, and checks that accept
pub accepted_by : {cs : List Check} {ls : List TableLine} → Means cs ls → NoneMet ls → first cs ≡ (Ok tt)
accepted_by {cs} {ls} t none = go (first cs) (finds t)
  where
    go : (k : Result ⊤ Refusal) → Finds k ls → k ≡ (Ok tt)
    go (Ok tt) f = refl
    go (Err r) f = absurd (not_both ls (number r) none f)

pub append : {cs ds : List Check} {ls ks : List TableLine} → Means cs ls → (NoneMet ls → Means ds ks) → Means (cs ++ ds) (ls ++ ks)
append end more = more tt
append (line t next) more = line t (λ p. append (next p) (λ n. more (p, n)))
append (void t next) more = void t (append next more)
