-- A call's outcome and what its checks found, each from the other: the reply of any call, and the record of one that writes.
use Rattle.std.specs.Prelude.{Result, Ok, Err, ⊤}
use Prim.Native.Nat.{ℕ}
use mathlib.Core.Path.{◌≡◌, refl, sym, ap, ◌∙◌}
use mathlib.Core.List.{List, []}
use Rattle.refusals.specs.Table.{Check, first, number, Reply, figures, refusal, reply_after, after, Wrote, said_written}
use Rattle.refusals.specs.declared.Refusal.{Refusal}
use Rattle.refusals.proofs.Replies.{no_figures, figures_accepted}
use Rattle.refusals.proofs.Checks.{reply_refused, reply_accepted, after_refused, after_accepted}

-- an answer without figures is that of an accepted call
pub nothing_said : (answer : Result ⊤ Refusal) → said_written answer ≡ figures [] → answer ≡ (Ok tt)
nothing_said (Ok tt) h = refl
nothing_said (Err e) h = absurd (no_figures (sym h))

-- an answer that names a refusal comes from checks that refused, so all is as it was
pub refusal_leaves : {A : Type 0} (k : Result ⊤ Refusal) (given : List ℕ) {v : ℕ} (result old : A) → refusal v ≡ reply_after k given → old ≡ after k result old
refusal_leaves (Ok tt) given result old h = absurd (no_figures (sym h))
refusal_leaves (Err e) given result old h = refl

-- The record of a call that writes, from what its checks found.
module _ {A : Type 0} {checks : List Check} {given : List ℕ} {result old : List A} where
  pub wrote_refused : {e : Refusal} → first checks ≡ Err e → Wrote checks given result old (refusal (number e)) old
  wrote_refused h = record { reply = reply_refused h given; content = after_refused h result old }

  pub wrote_accepted : {new : List A} → first checks ≡ (Ok tt) → new ≡ result → Wrote checks given result old (figures given) new
  wrote_accepted h is = record { reply = reply_accepted h given; content = is ∙ after_accepted h result old }

  -- by other checks that find the same
  pub wrote_by : {others : List Check} {said : Reply} {new : List A} → first others ≡ first checks → Wrote others given result old said new
      → Wrote checks given result old said new
  wrote_by h w = record {
    reply = w.reply ∙ ap (λ (k : Result ⊤ Refusal). reply_after k given) h;
    content = w.content ∙ ap (λ (k : Result ⊤ Refusal). after k result old) h;
  }

  -- What it tells: of an accepted call, and of one that says its figures.
  pub wrote_when_accepted : {said : Reply} {new : List A} → Wrote checks given result old said new → first checks ≡ (Ok tt)
      → (said ≡ figures given) × (new ≡ result)
  wrote_when_accepted w h = (w.reply ∙ sym (reply_accepted h given), w.content ∙ sym (after_accepted h result old))

  pub wrote_when_told : {shows : List ℕ} {new : List A} → Wrote checks given result old (figures shows) new
      → (first checks ≡ (Ok tt)) × (shows ≡ given) × (new ≡ result)
  wrote_when_told w =
      let t = figures_accepted (first checks) given (sym w.reply) in
      (t.0, t.1, (wrote_when_accepted w t.0).1)
