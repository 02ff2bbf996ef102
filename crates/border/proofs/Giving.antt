-- Figures that are given to a lent array: what is returned, and what the array holds afterwards. Assumes nothing.
use Rattle.std.specs.Prelude.{Result, Ok, Err, ⊤}
use Prim.Native.Nat.{ℕ}
use mathlib.Core.Path.{◌≡◌, refl, sym, ap, ◌∙◌}
use mathlib.Core.Bool.{Bool, true, false}
use mathlib.Core.List.{List, [], ◌∷◌, ◌++◌}
use borrow.Author.Tests.{eq-eqb, ne_eqb}
use lib.ListN.{length}
use Rattle.refusals.specs.Table.{Check, ◌unless◌, first, Reply, figures, refusal, number, reply_after, after, Wrote}
use Rattle.refusals.specs.declared.Refusal.TheVariants.{WrittenLength}
use Rattle.refusals.specs.declared.Refusal.{Refusal}
use Rattle.refusals.proofs.Checks.{first_passed, first_failed, first_append, first_refused}
use Rattle.refusals.proofs.Outcomes.{wrote_refused}
use Rattle.border.specs.Border.{status, lent, figures_after, WroteOut, FiguresOut, room_number}

-- a refusal: its number, and the array as it was
pub gives_refused : {k r : ℕ} {old : List ℕ} → r ≡ k → FiguresOut (refusal k) old r old
unfolding status lent figures_after
gives_refused h = record { number = h; content = refl }

-- an array of another length, and of the same
lent_other : (given : List ℕ) (room : ℕ) → (room ≡ length given → ⊥) → lent (figures given) room ≡ refusal (number WrittenLength)
unfolding lent
lent_other given room h = rw (lent, ne_eqb room (length given) h)

pub lent_all : (given : List ℕ) (room : ℕ) → room ≡ length given → lent (figures given) room ≡ figures given
unfolding lent
lent_all given room h = rw (lent, eq-eqb room (length given) h)

pub gives_other : {given old : List ℕ} {r : ℕ} → r ≡ number WrittenLength → (length old ≡ length given → ⊥) → FiguresOut (figures given) old r old
unfolding status figures_after
gives_other {given} {old} n h =
    let e = lent_other given (length old) h in
    record { number = n ∙ sym (ap status e); content = sym (ap (λ (k : Reply). figures_after k old) e) }

pub gives_all : {given old new : List ℕ} → length old ≡ length given → new ≡ given → FiguresOut (figures given) old 0 new
unfolding status figures_after
gives_all {given} {old} h is =
    let e = lent_all given (length old) h in
    record { number = sym (ap status e); content = is ∙ sym (ap (λ (k : Reply). figures_after k old) e) }

-- a call that looks at the array first, where it has another length than the figures that the checks would let through
pub room_first : (found : Result ⊤ Refusal) (given : List ℕ) {old : List ℕ} {r : ℕ} → r ≡ room_number found → (found ≡ (Ok tt) → length old ≡ length given → ⊥)
    → FiguresOut (reply_after found given) old r old
room_first (Ok tt) given n h = gives_other n (h refl)
room_first (Err e) given n h = gives_refused n

-- the same reply, in other words
pub gives_same : {reply other : Reply} {old new : List ℕ} {r : ℕ} → reply ≡ other → FiguresOut reply old r new → FiguresOut other old r new
gives_same {old = old} h g = record {
  number = g.number ∙ ap (λ (k : Reply). status (lent k (length old))) h;
  content = g.content ∙ ap (λ (k : Reply). figures_after (lent k (length old)) old) h;
}

-- and a refusal, in other words
pub gives_number : {reply : Reply} {k r : ℕ} {old : List ℕ} → reply ≡ refusal k → r ≡ k → FiguresOut reply old r old
gives_number h n = gives_same (sym h) (gives_refused n)

-- A call that only writes: what it replied, in a number.
status_alone : (k : Result ⊤ Refusal) (given : List ℕ) → status (reply_after k given) ≡ status (reply_after k [])
unfolding status
status_alone (Ok tt) given = refl
status_alone (Err e) given = refl

pub wrote_out : {A : Type 0} {checks : List Check} {given : List ℕ} {result old new : List A} {said : Reply} {r : ℕ}
    → Wrote checks given result old said new → r ≡ status said → WroteOut checks result old r new
wrote_out {checks = checks} {given = given} w h =
    record { number = h ∙ ap status w.reply ∙ status_alone (first checks) given; content = w.content }

-- refused, and a second array of an accepted or refused call
pub out_refused : {A : Type 0} {checks : List Check} {result old : List A} {e : Refusal} {r : ℕ} → first checks ≡ Err e → r ≡ number e
    → WroteOut checks result old r old
unfolding status
out_refused h n = wrote_out {given = []} (wrote_refused h) n

pub out_beside : {A B : Type 0} {checks : List Check} {given : List ℕ} {result old new : List A} {figured before after : List B} {said : Reply} {r : ℕ}
    → WroteOut checks figured before r after → Wrote checks given result old said new → WroteOut checks result old r new
out_beside o w = record { number = o.number; content = w.content }

-- Where a call's own checks are known, its reply and the array go by them.
content_is : (k : Result ⊤ Refusal) (given old : List ℕ) → after k given old ≡ figures_after (reply_after k given) old
unfolding figures_after
content_is (Ok tt) given old = refl
content_is (Err e) given old = refl

pub figures_told : (k : Result ⊤ Refusal) (given found old : List ℕ) → length old ≡ length found → figures found ≡ reply_after k given → {r : ℕ} {new : List ℕ} →
    FiguresOut (figures found) old r new → (r ≡ status (reply_after k given)) × (new ≡ after k given old)
figures_told k given found old same h g =
    let e = lent_all found (length old) same ∙ h in
    (g.number ∙ ap status e, g.content ∙ ap (λ (reply : Reply). figures_after reply old) e ∙ sym (content_is k given old))

pub refusal_told : (k : Result ⊤ Refusal) (given old : List ℕ) {j : ℕ} → refusal j ≡ reply_after k given →
    (j ≡ status (reply_after k given)) × (old ≡ after k given old)
unfolding status figures_after
refusal_told k given old h = (ap status h, ap (λ (reply : Reply). figures_after reply old) h ∙ sym (content_is k given old))

-- so of an exported call that gives its figures by `give`, or refuses
pub out_figures : {checks : List Check} (given : List ℕ) {found old new : List ℕ} {r : ℕ} → length old ≡ length found
    → figures found ≡ reply_after (first checks) given → FiguresOut (figures found) old r new → WroteOut checks given old r new
out_figures {checks} given {found} {old} same h g =
    let t = figures_told (first checks) given found old same h g in
    record { number = t.0 ∙ status_alone (first checks) given; content = t.1 }

pub out_refusal : {checks : List Check} (given : List ℕ) {old : List ℕ} {j r : ℕ} → refusal j ≡ reply_after (first checks) given → r ≡ j
    → WroteOut checks given old r old
out_refusal {checks} given {old} h n =
    let t = refusal_told (first checks) given old h in
    record { number = n ∙ t.0 ∙ status_alone (first checks) given; content = t.1 }

-- The array for the figures among the checks: where it has another length, that is refused after the checks before it; else the others are asked.
pub record Turned (found : Result ⊤ Refusal) (k : ℕ) : Type 0 where
  pub refused : Refusal
  pub is : found ≡ Err refused
  pub number_is : k ≡ number refused

pub room_refused : (cs ds : List Check) {ok : Bool} → ok ≡ false → Turned (first (cs ++ ((WrittenLength unless ok) ∷ ds))) (room_number (first cs))
room_refused cs ds {ok} h = at_once (first cs) refl
  where
    at_once : (k : Result ⊤ Refusal) → first cs ≡ k → Turned (first (cs ++ ((WrittenLength unless ok) ∷ ds))) (room_number (first cs))
    at_once (Ok tt) e = record { refused = WrittenLength; is = first_append cs _ e ∙ first_failed WrittenLength ok ds h; number_is = ap room_number e }
    at_once (Err r) e = record { refused = r; is = first_refused cs _ e; number_is = ap room_number e }

pub room_passed : (cs ds : List Check) {ok : Bool} → ok ≡ true → first (cs ++ ((WrittenLength unless ok) ∷ ds)) ≡ first (cs ++ ds)
room_passed cs ds {ok} h = at_once (first cs) refl
  where
    at_once : (k : Result ⊤ Refusal) → first cs ≡ k → first (cs ++ ((WrittenLength unless ok) ∷ ds)) ≡ first (cs ++ ds)
    at_once (Ok tt) e = first_append cs _ e ∙ first_passed WrittenLength ok ds h ∙ sym (first_append cs ds e)
    at_once (Err r) e = first_refused cs _ e ∙ sym (first_refused cs ds e)
