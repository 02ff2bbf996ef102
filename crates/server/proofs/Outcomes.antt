-- From the outcome of a call, which is its contract, to the model's: what stands on the places afterwards, that a server which the calls
-- made stays one, and that a refusal leaves every server as it was. Assumes nothing.
use Rattle.std.specs.Prelude.{Ok}
use Prim.Native.Nat.{ℕ, zero, suc, ◌+◌, ◌-◌, ◌*◌, ◌<◌, ◌≤◌, zero-le}
use mathlib.Core.Path.{◌≡◌, refl, sym, ap, ap₂, ◌∙◌, subst}
use mathlib.Core.Logic.{◌⊎◌, inl, inr, ⊎_elim}
use mathlib.Core.Bool.{true}
use mathlib.Core.List.{List, []}
use native.Mathlib.Numerals.{add-one}
use native.Mathlib.Omega.{arith}
use native.Mathlib.Decide.{ℕ_discrete}
use lib.ListN.{length, get_or, set}
use lib.Seq.{get_or-set_same}
use Rattle.refusals.specs.Table.{first, Reply, figures, refusal}
use Rattle.refusals.proofs.Checks.{after_cases, after_both, after_accepted}
use Rattle.refusals.proofs.Outcomes.{refusal_leaves}
use Rattle.refusals.proofs.Replies.{figures_accepted}
use Rattle.server.specs.declared.Place.{Place}
use Rattle.server.specs.declared.Server.{Server}
use Rattle.server.specs.Model.{analysis_of, Spot, empty, holds, ServerState, spot_at, with_spot, unfinished, put_checks, held_checks, put, withdraw}
use Rattle.server.specs.Model.{start, served, advanced, step, run}
use Rattle.server.specs.Calls.{spot_in, spots, state_of_server, place_of, server_of, SoundSpot, SoundSpots, SoundServer}
use Rattle.server.specs.Calls.{ServerBegan, with_place, ServerPut, ServerWithdrew, one_more_place, server_served, ServerStepped, ServerRan, none, more}
use Rattle.server.proofs.Places.{nowhere, spots_at, any_default, length_spots, taken_inside, state_set, unfinished_inside, places_set, stands_for, sound_at, sound_set}
use Rattle.server.proofs.Places.{held_at, with_place_state, with_place_of, sound_start}
use Rattle.server.proofs.Checks.{put_box, put_narrow, held_taken}
use Rattle.server.proofs.Boxes.{one_more_sound}
use Rattle.server.proofs.Steps.{step_none, step_some, served_left, sound_step}
use Rattle.server.proofs.Left.{left_of, left_in, fewer, left_less, left_bound, left_none, served_high}

-- ---- beginning
pub began_stands : {r : Server} → ServerBegan r → SoundServer r × (state_of_server r ≡ start)
began_stands b = stands_for start sound_start b.server

-- ---- a call that may be refused
fresh_sound : (s : ServerState) (q n m : ℕ) (rows : List ℕ) → first (put_checks s q n m rows) ≡ (Ok tt) → SoundSpot (holds (analysis_of n m rows 0))
unfolding analysis_of
fresh_sound s q n m rows h = record { box = put_box s q n m rows h; narrow = put_narrow s q n m rows h; few = zero-le; so_far = refl }

sound_put : (s : ServerState) (q n m : ℕ) (rows : List ℕ) → SoundSpots s.spots → SoundSpots (put s q n m rows).spots
unfolding put
sound_put s q n m rows h =
    after_cases (first (put_checks s q n m rows)) (with_spot s q (holds (analysis_of n m rows 0))) s (λ r. SoundSpots r.spots)
    (λ e. sound_set s.spots (q - 1) _ h (fresh_sound s q n m rows e)) h

sound_withdraw : (s : ServerState) (q : ℕ) → SoundSpots s.spots → SoundSpots (withdraw s q).spots
unfolding withdraw
sound_withdraw s q h =
    after_cases (first (held_checks s q)) (with_spot s q empty) s (λ r. SoundSpots r.spots) (λ e. sound_set s.spots (q - 1) empty h tt) h

module _ {s r : Server} {q n m : ℕ} {rows : List ℕ} {said : Reply} (p : ServerPut s q n m rows said r) where
  -- of every server
  pub put_content : state_of_server r ≡ put (state_of_server s) q n m rows
  unfolding put
  put_content =
      ap (λ (t : Server). state_of_server t) p.server
      ∙ after_both (first (put_checks (state_of_server s) q n m rows)) (λ t u. state_of_server u ≡ t) _ (state_of_server s) _ s
      (λ h. with_place_state s q (holds (analysis_of n m rows 0)) (fresh_sound (state_of_server s) q n m rows h)) refl

  -- of one that its own calls made, all that it holds
  pub put_whole : SoundServer s → r ≡ server_of (put (state_of_server s) q n m rows)
  unfolding put
  put_whole h =
      p.server ∙ after_both (first (put_checks (state_of_server s) q n m rows)) (λ t u. u ≡ server_of t) _ (state_of_server s) _ s (λ k. with_place_of s q _ h) h.only

  pub put_stands : SoundServer s → SoundServer r × (state_of_server r ≡ put (state_of_server s) q n m rows)
  put_stands h = stands_for (put (state_of_server s) q n m rows) (sound_put (state_of_server s) q n m rows h.places) (put_whole h)

module _ {s r : Server} {q : ℕ} {said : Reply} (p : ServerWithdrew s q said r) where
  pub withdrew_content : state_of_server r ≡ withdraw (state_of_server s) q
  unfolding withdraw
  withdrew_content =
      ap (λ (t : Server). state_of_server t) p.server
      ∙ after_both (first (held_checks (state_of_server s) q)) (λ t u. state_of_server u ≡ t) _ (state_of_server s) _ s (λ h. with_place_state s q empty tt) refl

  pub withdrew_whole : SoundServer s → r ≡ server_of (withdraw (state_of_server s) q)
  unfolding withdraw
  withdrew_whole h =
      p.server ∙ after_both (first (held_checks (state_of_server s) q)) (λ t u. u ≡ server_of t) _ (state_of_server s) _ s (λ k. with_place_of s q empty h) h.only

  pub withdrew_stands : SoundServer s → SoundServer r × (state_of_server r ≡ withdraw (state_of_server s) q)
  withdrew_stands h = stands_for (withdraw (state_of_server s) q) (sound_withdraw (state_of_server s) q h.places) (withdrew_whole h)

-- A refusal leaves the server as it was, whoever made it.
pub put_refused : {s r : Server} {q n m : ℕ} {rows : List ℕ} {k : ℕ} → ServerPut s q n m rows (refusal k) r → r ≡ s
put_refused {s} {r} {q} {n} {m} {rows} {k} p = p.server ∙ sym (refusal_leaves (first (put_checks (state_of_server s) q n m rows)) [] _ s p.reply)

pub withdrew_refused : {s r : Server} {q k : ℕ} → ServerWithdrew s q (refusal k) r → r ≡ s
withdrew_refused {s} {r} {q} {k} p = p.server ∙ sym (refusal_leaves (first (held_checks (state_of_server s) q)) [] _ s p.reply)

-- A box that was withdrawn is gone from every server: its place holds zeros.
pub withdrawn_gone : {s r : Server} {q : ℕ} → ServerWithdrew s q (figures []) r → (d : Place) → get_or r.places (q - 1) d ≡ place_of empty
withdrawn_gone {s} {r} {q} p d =
    let ok = (figures_accepted (first (held_checks (state_of_server s) q)) [] (sym p.reply)).0 in
    ap (λ (u : Server). get_or u.places (q - 1) d) (p.server ∙ sym (after_accepted ok (with_place s q empty) s))
    ∙ get_or-set_same s.places (q - 1) (place_of empty) d
    (omega (arith, length_spots s.places, taken_inside (spots s.places) (q - 1) (held_taken (state_of_server s) q ok)))

-- ---- a step
module _ (s : Server) where
  pub stepped_none : served (state_of_server s) ≡ 0 → ServerStepped s s
  stepped_none e = record {
    server = sym (ap (server_served s) e);
    stands = λ h. h.only ∙ ap server_of (sym (step_none (state_of_server s) e));
  }

  module _ (q : ℕ) (v : Place) (e : q ≡ served (state_of_server s)) (some : q ≡ 0 → ⊥)
      (x : unfinished (spot_in (get_or s.places (q - 1) nowhere)) ≡ true → v ≡ one_more_place (get_or s.places (q - 1) nowhere)) where
    abbrev here : Place
    here = get_or s.places (q - 1) nowhere

    left : unfinished (spot_at (state_of_server s) q) ≡ true
    left = served_left (state_of_server s) q e some

    inside : q - 1 < length (spots s.places)
    inside = unfinished_inside (spots s.places) (q - 1) left

    is : spot_at (state_of_server s) q ≡ spot_in here
    is = spots_at s.places (q - 1)

    left_here : unfinished (spot_in here) ≡ true
    left_here = ap unfinished (sym is) ∙ left

    abbrev then : Server
    then = record { places = set s.places (q - 1) v; last = q }

    every : then ≡ server_served s (served (state_of_server s))
    every =
        let one : suc (q - 1) ≡ q = omega arith in
        ap₂ (λ (p : Place) (l : ℕ). record { places = set s.places (q - 1) p; last = l })
        (x left_here ∙ ap one_more_place (any_default s.places (q - 1) nowhere (place_of empty) (omega (arith, length_spots s.places, inside)))) (sym one)
        ∙ ap (server_served s) (one ∙ e)

    whole : SoundServer s → then ≡ server_of (step (state_of_server s))
    whole h =
        let new : v ≡ place_of (advanced (spot_at (state_of_server s) q)) =
        x left_here
        ∙ one_more_sound here left_here (subst SoundSpot is (sound_at (spots s.places) (q - 1) h.places))
        (held_at s h (q - 1) inside ∙ ap place_of is)
        ∙ ap (λ (y : Spot). place_of (advanced y)) (sym is) in
        ap (λ (p : Place). record { places = set s.places (q - 1) p; last = q }) new
        ∙ ap (λ (t : Server). record { places = set t.places (q - 1) (place_of (advanced (spot_at (state_of_server s) q))); last = q }) h.only
        ∙ ap (λ (ps : List Place). record { places = ps; last = q }) (sym (places_set (spots s.places) (q - 1) _))
        ∙ ap server_of (sym (step_some (state_of_server s) q e some))

    pub stepped_some : {r : Server} → r ≡ then → ServerStepped s r
    stepped_some made = record { server = made ∙ every; stands = λ h. made ∙ whole h }

pub stepped_stands : {s r : Server} → ServerStepped s r → SoundServer s → SoundServer r × (state_of_server r ≡ step (state_of_server s))
stepped_stands {s} p h = stands_for (step (state_of_server s)) (sound_step (state_of_server s) h.places) (p.stands h)

-- with none unfinished the whole server is as it was, whoever made it
pub stepped_idle : {s r : Server} → ServerStepped s r → served (state_of_server s) ≡ 0 → r ≡ s
stepped_idle {s} p e = p.server ∙ ap (server_served s) e

-- and else one combination less is left
pub stepped_less : {s r : Server} → ServerStepped s r → (served (state_of_server s) ≡ 0 → ⊥) → suc (left_in (state_of_server r)) ≡ left_in (state_of_server s)
stepped_less {s} {r} p some =
    ap (λ (t : Server). suc (left_in (state_of_server t))) (p.server ∙ ap (server_served s) turn)
    ∙ ap (λ (t : ServerState). suc (left_in t)) (state_set s.places i (suc i) (one_more_place here) (spot_in (one_more_place here)) refl)
    ∙ left_less (state_of_server s) i (spot_in (one_more_place here)) (suc i) (omega (arith, served_high (state_of_server s))) left (fewer here (ap unfinished (sym is) ∙ left) ∙ ap left_of (sym is))
  where
    i : ℕ
    i = served (state_of_server s) - 1

    turn : served (state_of_server s) ≡ suc i
    turn = omega arith

    here : Place
    here = get_or s.places i (place_of empty)

    left : unfinished (get_or (spots s.places) i empty) ≡ true
    left = served_left (state_of_server s) (served (state_of_server s)) refl some

    is : get_or (spots s.places) i empty ≡ spot_in here
    is =
        spots_at s.places i
        ∙ ap spot_in (any_default s.places i nowhere (place_of empty) (omega (arith, length_spots s.places, unfinished_inside (spots s.places) i left)))

-- ---- so many steps
-- where none is unfinished, further steps do nothing
pub ran_on : {s r : Server} {k : ℕ} (j : ℕ) → ServerRan s k r → served (state_of_server r) ≡ 0 → k ≤ j → ServerRan s j r
ran_on {s} {r} {k} zero p e l = let all : k ≡ 0 = omega arith in subst (λ (i : ℕ). ServerRan s i r) all p
ran_on {s} {r} {k} (suc j) p e l = go (ℕ_discrete k (suc j)) (λ h. ran_on j p e h)
  where
    go : Dec (k ≡ suc j) → (k ≤ j → ServerRan s j r) → ServerRan s (suc j) r
    go (yes q) rec = subst (λ (i : ℕ). ServerRan s i r) q p
    go (no q) rec = more (rec (omega arith)) (stepped_none r e)

pub ran_more : {s t r : Server} {k : ℕ} → ServerRan s k t → ServerStepped t r → ServerRan s (k + 1) r
ran_more {s} {t} {r} {k} p x = subst (λ (i : ℕ). ServerRan s i r) (sym (add-one k)) (more p x)

-- a run of one step is a step
pub ran_one : {s r : Server} → ServerRan s 1 r → ServerStepped s r
ran_one (more none x) = x

pub ran_stands : {s r : Server} {k : ℕ} → ServerRan s k r → SoundServer s → SoundServer r × (state_of_server r ≡ run (state_of_server s) k)
unfolding run
ran_stands none h = (h, refl)
ran_stands (more p x) h =
    let t = ran_stands p h in
    let u = stepped_stands x t.0 in
    (u.0, u.1 ∙ ap step t.1)

-- with none unfinished the whole server is as it was, whoever made it
pub ran_idle : {s r : Server} {k : ℕ} → ServerRan s k r → served (state_of_server s) ≡ 0 → r ≡ s
ran_idle none e = refl
ran_idle (more p x) e = let t = ran_idle p e in stepped_idle x (ap (λ (u : Server). served (state_of_server u)) t ∙ e) ∙ t

ran_left : {s r : Server} {k : ℕ} → ServerRan s k r → (served (state_of_server r) ≡ 0) ⊎ (left_in (state_of_server r) + k ≤ left_in (state_of_server s))
ran_left none = inr (omega arith)
ran_left {s} {r} (more {k} {t} p x) = ⊎_elim (λ e. inl (still e)) (λ l. go l (ℕ_discrete (served (state_of_server t)) 0)) (ran_left p)
  where
    still : served (state_of_server t) ≡ 0 → served (state_of_server r) ≡ 0
    still e = ap (λ (u : Server). served (state_of_server u)) (stepped_idle x e) ∙ e

    go : left_in (state_of_server t) + k ≤ left_in (state_of_server s) → Dec (served (state_of_server t) ≡ 0) → (served (state_of_server r) ≡ 0) ⊎ (left_in (state_of_server r) + suc k ≤ left_in (state_of_server s))
    go l (yes e) = inl (still e)
    go l (no e) = inr (omega (arith, stepped_less x e))

-- Every server, whoever made it, is done after 8 × 65,535 steps: none is unfinished then.
pub ran_ends : {s r : Server} {k : ℕ} → ServerRan s k r → 8 * 65535 ≤ k → served (state_of_server r) ≡ 0
ran_ends {s} {r} {k} p l = ⊎_elim (λ e. e) (λ h. left_none (state_of_server r) (omega (arith, left_bound (state_of_server s)))) (ran_left p)
