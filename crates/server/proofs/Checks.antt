-- What the checks of a call leave known, and what the call says and leaves then, refused or not. Assumes nothing.
use Rattle.std.specs.Prelude.{Result, Ok, Err, ⊤}
use Prim.Native.Nat.{ℕ, ◌-◌, ◌≤◌}
use mathlib.Core.Path.{◌≡◌, refl, sym, ap, ◌∙◌}
use mathlib.Core.Bool.{Bool, true, false, not}
use mathlib.Core.List.{List, [], ◌∷◌}
use native.Mathlib.Omega.{arith}
use borrow.Author.Tests.{eqb-true}
use lib.ListN.{get_or}
use Rattle.refusals.specs.Table.{first, in_range, number, ◌unless◌, box_checks_up_to, Box, figures, said_written}
use Rattle.refusals.specs.declared.Refusal.{Refusal}
use Rattle.refusals.specs.declared.Refusal.TheVariants.{NoPlace, PlaceState}
use Rattle.refusals.proofs.Checks.{passed, accepted_after, box_up_to, few_outputs, reply_refused, reply_accepted, after_refused, after_accepted}
use Rattle.refusals.proofs.Bounds.{range_low, range_high}
use Rattle.linear.specs.Calls.{pair_candidate}
use Rattle.server.specs.declared.Place.{Place}
use Rattle.server.specs.declared.Server.{Server}
use Rattle.server.specs.declared.Served.{Served}
use Rattle.server.specs.Model.{Spot, empty, holds, ServerState, spot_at, is_taken, unfinished, held_checks, put_checks, analysis_of}
use Rattle.server.specs.Model.{progress_in, progress_of, progress_after, still_unfinished, finished, declined, ask}
use Rattle.server.specs.Calls.{spot_in, state_of_server, with_place, ServerPut, ServerWithdrew, ServerTold}
use Rattle.server.proofs.Places.{nowhere, spots_at, spot_taken, spot_box}

-- ---- a place with a box on it
module _ (s : ServerState) (q : ℕ) (h : first (held_checks s q) ≡ (Ok tt)) where
  pub held_low : 1 ≤ q
  unfolding held_checks
  held_low = range_low 1 8 q (passed (held_checks s q) h).0

  pub held_high : q ≤ 8
  unfolding held_checks
  held_high = range_high 1 8 q (passed (held_checks s q) h).0

  pub held_taken : is_taken (spot_at s q) ≡ true
  unfolding held_checks
  held_taken = (passed (held_checks s q) h).1.0

-- ---- an empty place and a box
module _ (s : ServerState) (q n m : ℕ) (rows : List ℕ) (h : first (put_checks s q n m rows) ≡ (Ok tt)) where
  pub put_low : 1 ≤ q
  unfolding put_checks
  put_low = range_low 1 8 q (passed (put_checks s q n m rows) h).0

  pub put_high : q ≤ 8
  unfolding put_checks
  put_high = range_high 1 8 q (passed (put_checks s q n m rows) h).0

  pub put_free : is_taken (spot_at s q) ≡ false
  unfolding put_checks
  put_free = not_true (is_taken (spot_at s q)) (passed (put_checks s q n m rows) h).1.0
    where
      not_true : (b : Bool) → not b ≡ true → b ≡ false
      not_true true e = sym e
      not_true false e = refl

  boxed : first (box_checks_up_to 16 n m rows) ≡ (Ok tt)
  unfolding put_checks
  boxed = accepted_after ((NoPlace unless in_range 1 8 q) ∷ (PlaceState unless not (is_taken (spot_at s q))) ∷ []) (box_checks_up_to 16 n m rows) h

  pub put_box : Box n m rows
  put_box = box_up_to 16 n m rows [] (omega arith) boxed

  pub put_narrow : m ≤ 16
  put_narrow = few_outputs 16 n m rows [] boxed

-- ---- putting and withdrawing
module _ (s : Server) (q n m : ℕ) (rows : List ℕ) where
  pub refused_put : {e : Refusal} → first (put_checks (state_of_server s) q n m rows) ≡ Err e → {r : Served} → (r.server ≡ s) × (r.answer ≡ Err e)
      → ServerPut s q n m rows (said_written r.answer) r.server
  refused_put h g = record { reply = ap said_written g.1 ∙ reply_refused h []; server = g.0 ∙ after_refused h _ s }

  pub accepted_put : first (put_checks (state_of_server s) q n m rows) ≡ (Ok tt) → {r : Server} → r ≡ with_place s q (holds (analysis_of n m rows 0))
      → ServerPut s q n m rows (figures []) r
  accepted_put h e = record { reply = reply_accepted h []; server = e ∙ after_accepted h _ s }

module _ (s : Server) (q : ℕ) where
  pub refused_withdrawal : {e : Refusal} → first (held_checks (state_of_server s) q) ≡ Err e → {r : Served} → (r.server ≡ s) × (r.answer ≡ Err e)
      → ServerWithdrew s q (said_written r.answer) r.server
  refused_withdrawal h g = record { reply = ap said_written g.1 ∙ reply_refused h []; server = g.0 ∙ after_refused h _ s }

  pub accepted_withdrawal : first (held_checks (state_of_server s) q) ≡ (Ok tt) → {r : Server} → r ≡ with_place s q empty → ServerWithdrew s q (figures []) r
  accepted_withdrawal h e = record { reply = reply_accepted h []; server = e ∙ after_accepted h _ s }

-- ---- asking
standing_unfinished : (x : Spot) → unfinished x ≡ true → progress_in x ≡ still_unfinished
standing_unfinished empty e = refl
standing_unfinished (holds a) e = ap (λ (b : Bool). progress_of b a.found) e

standing_finished : (p : Place) → p.taken ≡ 1 → unfinished (spot_in p) ≡ false
    → progress_in (spot_in p) ≡ finished (p.found.count ∷ p.found.c ∷ p.found.w ∷ p.found.b ∷ [])
standing_finished p e h =
    ap progress_in (spot_box p e) ∙ ap (λ (b : Bool). progress_of b (pair_candidate p.found)) (sym (ap unfinished (spot_box p e)) ∙ h)

module _ (s : Server) (q : ℕ) where
  -- what stands on the place
  abbrev here : Place
  here = get_or s.places (q - 1) nowhere

  pub ask_refused : {e : Refusal} → first (held_checks (state_of_server s) q) ≡ Err e → ServerTold s q (declined (number e))
  unfolding ask
  ask_refused h = record { standing = sym (ap (λ (k : Result ⊤ Refusal). progress_after k (spot_at (state_of_server s) q)) h) }

  module _ (h : first (held_checks (state_of_server s) q) ≡ (Ok tt)) where
    told : {said : _} → progress_in (spot_in here) ≡ said → ServerTold s q said
    unfolding ask
    told e = record {
      standing = sym (ap (λ (k : Result ⊤ Refusal). progress_after k (spot_at (state_of_server s) q)) h ∙ ap progress_in (spots_at s.places (q - 1)) ∙ e);
    }

    here_taken : here.taken ≡ 1
    here_taken = eqb-true here.taken 1 (sym (spot_taken here) ∙ ap is_taken (sym (spots_at s.places (q - 1))) ∙ held_taken (state_of_server s) q h)

    pub ask_unfinished : unfinished (spot_in here) ≡ true → ServerTold s q still_unfinished
    ask_unfinished e = told (standing_unfinished (spot_in here) e)

    pub ask_finished : unfinished (spot_in here) ≡ false → ServerTold s q (finished (here.found.count ∷ here.found.c ∷ here.found.w ∷ here.found.b ∷ []))
    ask_finished e = told (standing_finished here here_taken e)
