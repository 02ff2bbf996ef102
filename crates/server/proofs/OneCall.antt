-- What one call leaves on the places, in numbers: putting examines none of a box's combinations, a step examines one, of the box that it
-- serves, and until the first step the circle begins with place 1. Assumes nothing.
use Prim.Native.Nat.{ℕ, zero, suc, ◌+◌, ◌-◌, ◌%◌, ◌<◌}
use mathlib.Core.Path.{◌≡◌, refl, sym, ap, ◌∙◌}
use mathlib.Core.Bool.{true, false}
use mathlib.Core.List.{List, [], ◌∷◌, ◌++◌}
use native.Mathlib.Omega.{arith}
use lib.ListN.{length, get_or, set}
use lib.Seq.{get_or-set_same, get_or-set_other}
use Rattle.boolean.specs.Sums.{list_below}
use Rattle.refusals.specs.Table.{first, figures}
use Rattle.refusals.proofs.Checks.{after_cases, after_accepted}
use Rattle.refusals.proofs.Replies.{figures_accepted}
use Rattle.server.specs.declared.Place.{Place}
use Rattle.server.specs.declared.Server.{Server}
use Rattle.server.specs.Model.{empty, holds, analysis_of, ServerState, start, spot_at, unfinished, put_checks, held_checks, put, withdraw, step, run}
use Rattle.server.specs.Model.{round_robin, served}
use Rattle.server.specs.Calls.{spots, state_of_server, place_of, with_place, ServerPut, one_more_place, server_served, ServerStepped}
use Rattle.server.specs.Statements.{Call, puts, asks, withdraws, steps, runs, after_call, after_all, step_count, ServerMade}
use Rattle.server.proofs.Circle.{found_first}
use Rattle.server.proofs.Places.{any_default, length_spots, unfinished_inside}
use Rattle.server.proofs.Checks.{put_low, put_high}
use Rattle.server.proofs.Progress.{size_all, size_start}
use Rattle.server.proofs.Made.{made_stands}

-- ---- putting
made_eight : {calls : List Call} {s : Server} → ServerMade calls s → length s.places ≡ 8
made_eight {calls} {s} t =
    sym (length_spots s.places) ∙ ap (λ (x : ServerState). length x.spots) (made_stands t).1 ∙ size_all calls start size_start

module _ {calls : List Call} {s r : Server} {q n m : ℕ} {rows : List ℕ} (made : ServerMade calls s) (p : ServerPut s q n m rows (figures []) r) where
  -- the place holds the box and what is held before the first combination
  pub put_fresh : (d : Place) → get_or r.places (q - 1) d ≡ place_of (holds (analysis_of n m rows 0))
  put_fresh d =
      let ok = (figures_accepted (first (put_checks (state_of_server s) q n m rows)) [] (sym p.reply)).0 in
      ap (λ (u : Server). get_or u.places (q - 1) d) (p.server ∙ sym (after_accepted ok (with_place s q (holds (analysis_of n m rows 0))) s))
      ∙ get_or-set_same s.places (q - 1) (place_of (holds (analysis_of n m rows 0))) d
      (omega (arith, made_eight made, put_low (state_of_server s) q n m rows ok, put_high (state_of_server s) q n m rows ok))

  pub put_examines_none : (d : Place) → (get_or r.places (q - 1) d).examined ≡ 0
  unfolding place_of analysis_of
  put_examines_none d = ap (λ (v : Place). v.examined) (put_fresh d)

-- ---- a step, of every server
-- the first unfinished place in the circle
module _ (s r : Server) (x : ServerStepped s r) (k : ℕ) (l : k < 8)
    (some : unfinished (spot_at (state_of_server s) ((s.last + k) % 8 + 1)) ≡ true)
    (none : (h : ℕ) → h < k → unfinished (spot_at (state_of_server s) ((s.last + h) % 8 + 1)) ≡ false) where
  abbrev i : ℕ
  i = (s.last + k) % 8

  serves : served (state_of_server s) ≡ suc i
  unfolding served round_robin list_below
  serves =
      found_first (λ p. unfinished (spot_at (state_of_server s) p)) (λ k. (s.last + k) % 8 + 1) 0 8 k (omega arith) (omega arith) some (λ h a b. none h b)
      ∙ omega arith

  is : r ≡ server_served s (suc i)
  is = x.server ∙ ap (server_served s) serves

  inside : i < length s.places
  inside =
      let here : i + 1 - 1 ≡ i = omega arith in
      omega (arith, length_spots s.places, unfinished_inside (spots s.places) i (ap (λ (j : ℕ). unfinished (get_or (spots s.places) j empty)) (sym here) ∙ some))

  one_more : (d : Place) → get_or r.places i d ≡ one_more_place (get_or s.places i d)
  one_more d =
      ap (λ (t : Server). get_or t.places i d) is ∙ get_or-set_same s.places i (one_more_place (get_or s.places i (place_of empty))) d inside
      ∙ ap one_more_place (any_default s.places i (place_of empty) d inside)

  -- it is the place last served then
  pub step_last : r.last ≡ i + 1
  step_last = ap (λ (t : Server). t.last) is ∙ omega arith

  -- of its box one combination more was examined
  pub step_examines_one : (d : Place) → (get_or r.places i d).examined ≡ (get_or s.places i d).examined + 1
  unfolding one_more_place
  step_examines_one d = ap (λ (p : Place). p.examined) (one_more d)

  -- and it is the same box
  pub step_keeps_box : (d : Place) → ((get_or r.places i d).n ≡ (get_or s.places i d).n) × ((get_or r.places i d).m ≡ (get_or s.places i d).m)
      × ((get_or r.places i d).rows ≡ (get_or s.places i d).rows)
  unfolding one_more_place
  step_keeps_box d =
      (ap (λ (p : Place). p.n) (one_more d), ap (λ (p : Place). p.m) (one_more d), ap (λ (p : Place). p.rows) (one_more d))

  -- every other place is as it was
  pub step_leaves_others : (d : Place) (j : ℕ) → ¬ (j ≡ i) → get_or r.places j d ≡ get_or s.places j d
  step_leaves_others d j other =
      ap (λ (t : Server). get_or t.places j d) is ∙ get_or-set_other s.places i j (one_more_place (get_or s.places i (place_of empty))) d other

-- ---- steps: each is counted, and no other call makes one
count_append : (cs ds : List Call) → step_count (cs ++ ds) ≡ step_count cs + step_count ds
unfolding step_count
count_append [] ds = omega arith
count_append (puts p n m rows ∷ cs) ds = count_append cs ds
count_append (asks p ∷ cs) ds = count_append cs ds
count_append (withdraws p ∷ cs) ds = count_append cs ds
count_append (steps ∷ cs) ds = omega (arith, count_append cs ds)
count_append (runs k ∷ cs) ds = omega (arith, count_append cs ds)

pub steps_counted : (step_count (steps ∷ []) ≡ 1) × ((budget : ℕ) → step_count (runs budget ∷ []) ≡ budget)
    × ((cs ds : List Call) → step_count (cs ++ ds) ≡ step_count cs + step_count ds)
unfolding step_count
steps_counted = (refl, λ budget. omega arith, count_append)

-- ---- before the first step the place last served is 0, so that the circle begins with place 1
pub starts_at_one : start.last ≡ 0
unfolding start
starts_at_one = refl

last_one : (s : ServerState) (c : Call) → step_count (c ∷ []) ≡ 0 → (after_call s c).last ≡ s.last
unfolding after_call step_count put withdraw run
last_one s (puts p n m rows) e = after_cases (first (put_checks s p n m rows)) _ s (λ (t : ServerState). t.last ≡ s.last) (λ h. refl) refl
last_one s (asks p) e = refl
last_one s (withdraws p) e = after_cases (first (held_checks s p)) _ s (λ (t : ServerState). t.last ≡ s.last) (λ h. refl) refl
last_one s steps e = absurd (omega arith)
last_one s (runs k) e = let no : k ≡ 0 = omega arith in ap (λ (j : ℕ). (run s j).last) no

last_all : (calls : List Call) (s : ServerState) → step_count calls ≡ 0 → (after_all s calls).last ≡ s.last
unfolding after_all
last_all [] s e = refl
last_all (c ∷ cs) s e =
    last_all cs (after_call s c) (omega (arith, count_append (c ∷ []) cs)) ∙ last_one s c (omega (arith, count_append (c ∷ []) cs))

pub first_from_one : {calls : List Call} {s : Server} → ServerMade calls s → step_count calls ≡ 0 → s.last ≡ 0
first_from_one {calls} {s} t e =
    ap (λ (x : ServerState). x.last) (made_stands t).1 ∙ last_all calls start e ∙ starts_at_one
