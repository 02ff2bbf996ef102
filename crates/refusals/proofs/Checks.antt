-- A table of checks: what its first line that applies is, what an accepted table says, and what a call then replies and leaves.
-- Assumes nothing.
use Rattle.std.specs.Prelude.{Result, Ok, Err, ⊤}
use Prim.Native.Nat.{ℕ, ◌^◌, ◌≤◌}
use mathlib.Core.Path.{◌≡◌, refl, sym, ap, ◌∙◌}
use mathlib.Core.Bool.{Bool, true, false, not, true≢false}
use mathlib.Core.List.{List, [], ◌∷◌, ◌++◌}
use native.Mathlib.Nat.{le_refl, le_trans, le_of_eq, zero-lt-suc}
use borrow.Author.Tests.{not-true, not-false, eqb-true, eq-eqb, ne_eqb}
use lib.Dec.{eqb}
use lib.ListN.{length}
use lib.Pow.{pow_pos, pow_mono}
use Rattle.refusals.specs.Table.{Check, ◌unless◌, first, in_range, box_checks_up_to, box_checks, limit_checks, table_checks, Box, Table, figures, refusal, number, reply_after, after, is_accepted}
use Rattle.refusals.specs.declared.Refusal.{Refusal}
use Rattle.refusals.specs.declared.Refusal.TheVariants.{Parameter}
use Rattle.refusals.proofs.Bounds.{range_low, range_high, range_true, below_at, below_true}

-- `if !f(..)`, where f ensures that its result is the test: the branch was taken, or left
pub fails : {r t : Bool} → r ≡ t → not r ≡ true → t ≡ false
fails {r} e k = sym e ∙ not-true r k

pub holds : {r t : Bool} → r ≡ t → not r ≡ false → t ≡ true
holds {r} e k = sym e ∙ not-false r k

-- `if a != f(..)`, where f ensures that its result is b: the branch was taken, or left
pub differs : {a r b : ℕ} → r ≡ b → (a ≡ r → ⊥) → eqb a b ≡ false
differs {a} {b = b} e k = ne_eqb a b (λ q. k (q ∙ sym e))

pub equals : {a r b : ℕ} → r ≡ b → a ≡ r → eqb a b ≡ true
equals {a} {b = b} e k = eq-eqb a b (k ∙ e)

-- One line: where its test holds the rest is asked, and where it fails its refusal is given.
pub first_passed : (e : Refusal) (ok : Bool) (cs : List Check) → ok ≡ true → first ((e unless ok) ∷ cs) ≡ first cs
unfolding first
first_passed e ok cs h = rw h

pub first_failed : (e : Refusal) (ok : Bool) (cs : List Check) → ok ≡ false → first ((e unless ok) ∷ cs) ≡ Err e
unfolding first
first_failed e ok cs h = rw h

-- A walk down a table: a line whose test holds is passed over, and one whose test fails is given.
pub data Walk : List Check → Result ⊤ Refusal → Type 0 where
  end : Walk [] (Ok tt)
  skip : {e : Refusal} {ok : Bool} {cs : List Check} {k : Result ⊤ Refusal} → ok ≡ true → Walk cs k → Walk ((e unless ok) ∷ cs) k
  stop : {e : Refusal} {ok : Bool} {cs : List Check} → ok ≡ false → Walk ((e unless ok) ∷ cs) (Err e)

pub found : {cs : List Check} {k : Result ⊤ Refusal} → Walk cs k → k ≡ first cs
unfolding first
found end = refl
found (skip {e} {ok} {cs} h w) = found w ∙ sym (first_passed e ok cs h)
found (stop {e} {ok} {cs} h) = sym (first_failed e ok cs h)

-- The lines of two tables, one after the other: where the first accepts, the second is asked, and else the first is given.
pub first_append : (cs ds : List Check) → first cs ≡ (Ok tt) → first (cs ++ ds) ≡ first ds
unfolding first
first_append [] ds h = refl
first_append ((e unless true) ∷ cs) ds h = first_append cs ds h
first_append ((e unless false) ∷ cs) ds h = cc

pub first_refused : (cs ds : List Check) {e : Refusal} → first cs ≡ Err e → first (cs ++ ds) ≡ Err e
unfolding first
first_refused [] ds h = cc
first_refused ((e unless true) ∷ cs) ds h = first_refused cs ds h
first_refused ((e unless false) ∷ cs) ds h = h

pub found_after : (cs : List Check) {ds : List Check} {k : Result ⊤ Refusal} → first cs ≡ (Ok tt) → Walk ds k → k ≡ first (cs ++ ds)
found_after cs {ds} h w = found w ∙ sym (first_append cs ds h)

pub found_before : (cs ds : List Check) {e : Refusal} → first cs ≡ Err e → Err e ≡ first (cs ++ ds)
found_before cs ds h = sym (first_refused cs ds h)

-- and where both together accept, each does
pub accepted_before : (cs ds : List Check) → first (cs ++ ds) ≡ (Ok tt) → first cs ≡ (Ok tt)
unfolding first
accepted_before [] ds h = refl
accepted_before ((e unless true) ∷ cs) ds h = accepted_before cs ds h
accepted_before ((e unless false) ∷ cs) ds h = h

pub accepted_after : (cs ds : List Check) → first (cs ++ ds) ≡ (Ok tt) → first ds ≡ (Ok tt)
accepted_after cs ds h = sym (first_append cs ds (accepted_before cs ds h)) ∙ h

-- Of an accepted table each line's test holds; and back.
abbrev pub Passed : List Check → Type 0
Passed [] = Unit
Passed ((e unless ok) ∷ cs) = (ok ≡ true) × Passed cs

pub passed : (cs : List Check) → first cs ≡ (Ok tt) → Passed cs
unfolding first
passed [] h = tt
passed ((e unless true) ∷ cs) h = (refl, passed cs h)
passed ((e unless false) ∷ cs) h = (cc, passed cs (cc))

pub accepted : (cs : List Check) → Passed cs → first cs ≡ (Ok tt)
accepted [] p = sym (found end)
accepted ((e unless ok) ∷ cs) p = first_passed e ok cs p.0 ∙ accepted cs p.1

-- What an accepted table that begins with the lines of a box, or of a truth table, says; and back.
pub box_up_to : (most n m : ℕ) (rows : List ℕ) (more : List Check) → most ≤ 32 → first (box_checks_up_to most n m rows ++ more) ≡ (Ok tt) → Box n m rows
box_up_to most n m rows more few h =
    let p = passed (box_checks_up_to most n m rows) (accepted_before (box_checks_up_to most n m rows) more h) in
    let n_high : n ≤ 8 = range_high 1 8 n p.0 in
    let size : length rows ≡ 2 ^ n = eqb-true (length rows) (2 ^ n) p.1.1.0 in
    record {
      n_low = range_low 1 8 n p.0;
      n_high = n_high;
      m_low = range_low 1 most m p.1.0;
      m_high = le_trans (range_high 1 most m p.1.0) few;
      size = size;
      small = le_trans (le_of_eq size) (pow_mono n_high);
      below = below_at (2 ^ m) rows (pow_pos m) p.1.1.1.0;
    }

pub box : (n m : ℕ) (rows : List ℕ) (more : List Check) → first (box_checks n m rows ++ more) ≡ (Ok tt) → Box n m rows
box n m rows more h = box_up_to 32 n m rows more (le_refl 32) h

-- and where fewer outputs are taken, there are no more than that
pub few_outputs : (most n m : ℕ) (rows : List ℕ) (more : List Check) → first (box_checks_up_to most n m rows ++ more) ≡ (Ok tt) → m ≤ most
few_outputs most n m rows more h = range_high 1 most m (passed (box_checks_up_to most n m rows) (accepted_before (box_checks_up_to most n m rows) more h)).1.0

-- the limit of an accepted call on combinations
pub record Limited (n m : ℕ) (rows : List ℕ) (i : ℕ) : Type 0 where
  pub box : Box n m rows
  pub i_low : 1 ≤ i
  pub i_high : i ≤ m

pub limited : (n m : ℕ) (rows : List ℕ) (i : ℕ) → first (limit_checks n m rows i) ≡ (Ok tt) → Limited n m rows i
unfolding limit_checks
limited n m rows i h =
    let p = passed ((Parameter unless in_range 1 m i) ∷ []) (accepted_after (box_checks n m rows) ((Parameter unless in_range 1 m i) ∷ []) h) in
    record { box = box n m rows _ h; i_low = range_low 1 m i p.0; i_high = range_high 1 m i p.0 }

pub box_accepted : (n m : ℕ) (rows : List ℕ) → Box n m rows → first (box_checks n m rows) ≡ (Ok tt)
box_accepted n m rows b =
    accepted (box_checks n m rows) (
      range_true 1 8 n b.n_low b.n_high,
      (
        range_true 1 32 m b.m_low b.m_high,
        (eq-eqb (length rows) (2 ^ n) b.size, (below_true (2 ^ m) rows (λ x l. b.below x), tt)),
      ),
    )

pub limit_accepted : (n m : ℕ) (rows : List ℕ) (i : ℕ) → Limited n m rows i → first (limit_checks n m rows i) ≡ (Ok tt)
unfolding limit_checks
limit_accepted n m rows i l = sym (found_after _ (box_accepted n m rows l.box) (skip (range_true 1 m i l.i_low l.i_high) end))

pub table : (n : ℕ) (values : List ℕ) (more : List Check) → first (table_checks n values ++ more) ≡ (Ok tt) → Table n values
table n values more h =
    let p = passed (table_checks n values) (accepted_before (table_checks n values) more h) in
    record {
      n_low = range_low 1 8 n p.0;
      n_high = range_high 1 8 n p.0;
      size = eqb-true (length values) (2 ^ n) p.1.0;
      bits = below_at 2 values (zero-lt-suc 1) p.1.1.0;
    }

pub table_accepted : (n : ℕ) (values : List ℕ) → Table n values → first (table_checks n values) ≡ (Ok tt)
table_accepted n values t =
    accepted (table_checks n values) (
      range_true 1 8 n t.n_low t.n_high,
      (eq-eqb (length values) (2 ^ n) t.size, (below_true 2 values (λ x l. t.bits x), tt)),
    )

-- The reply of a call, and what stands after it, from what its checks found.
module _ {k : Result ⊤ Refusal} where
  pub reply_refused : {e : Refusal} → k ≡ Err e → (given : List ℕ) → refusal (number e) ≡ reply_after k given
  reply_refused h given = sym (rw h)

  pub reply_accepted : k ≡ (Ok tt) → (given : List ℕ) → figures given ≡ reply_after k given
  reply_accepted h given = sym (rw h)

  pub after_refused : {A : Type 0} {e : Refusal} → k ≡ Err e → (result old : A) → old ≡ after k result old
  after_refused h result old = sym (ap (λ (c : Result ⊤ Refusal). after c result old) h)

  pub after_accepted : {A : Type 0} → k ≡ (Ok tt) → (result old : A) → result ≡ after k result old
  after_accepted h result old = sym (ap (λ (c : Result ⊤ Refusal). after c result old) h)

-- What holds of the result, where the checks accept, and of what was there, holds of what stands after the call; and so of two things.
pub after_cases : {A : Type 0} (k : Result ⊤ Refusal) (result old : A) (P : A → Type 0) → (k ≡ (Ok tt) → P result) → P old → P (after k result old)
after_cases (Ok tt) result old P p q = p refl
after_cases (Err e) result old P p q = q

pub after_both : {A B : Type 0} (k : Result ⊤ Refusal) (P : A → B → Type 0) (result old : A) (result' old' : B) → (k ≡ (Ok tt) → P result result') → P old old'
    → P (after k result old) (after k result' old')
after_both (Ok tt) P result old result' old' p q = p refl
after_both (Err e) P result old result' old' p q = q

-- Checks accept or refuse, and never both.
pub is_accepted_lem : (k : Result ⊤ Refusal) → is_accepted k ≡ true → k ≡ (Ok tt)
is_accepted_lem (Ok tt) h = refl
is_accepted_lem (Err e) h = absurd (true≢false (sym h))

pub not_both : {k : Result ⊤ Refusal} {e : Refusal} → k ≡ Err e → k ≡ (Ok tt) → ⊥
not_both p q = true≢false (sym (ap is_accepted q) ∙ ap is_accepted p)
