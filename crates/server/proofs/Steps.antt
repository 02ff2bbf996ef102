-- A step of the server: which place it serves, and what it leaves; and steps one after the other. Assumes nothing.
use Prim.Native.Nat.{ℕ, suc, ◌+◌, ◌-◌, ◌%◌, ◌<◌, zero-le}
use mathlib.Core.Path.{◌≡◌, refl, sym, ap, ◌∙◌, subst}
use mathlib.Core.Bool.{Bool, true, false}
use mathlib.Core.List.{List}
use native.Mathlib.Omega.{arith}
use native.Mathlib.Decide.{ℕ_discrete}
use lib.ListN.{get_or, set}
use Rattle.boolean.specs.Sums.{list_below}
use Rattle.server.specs.declared.Server.{Server}
use Rattle.server.specs.Model.{analysis_of, Spot, empty, holds, ServerState, spot_at, unfinished, round_robin, served, advanced, serve, step}
use Rattle.server.specs.Calls.{state_of_server, SoundSpot, SoundSpots}
use Rattle.server.specs.Work.{Waiting, turn}
use Rattle.server.proofs.Circle.{found_first, found_none, found_passes, found_cong}
use Rattle.server.proofs.Places.{more_left, sound_at, sound_set}

-- the index of the place that stands k on in the circle, as the code computes it
abbrev pub index : ℕ → ℕ → ℕ
index last k = (last % 8 + k) % 8

-- the turn, found in what is kept of the places
module _ (waiting : List Bool) (last : ℕ) where
  test : ℕ → Bool
  test p = get_or waiting (p - 1) false

  place : ℕ → ℕ
  place k = (last + k) % 8 + 1

  place_is : (k : ℕ) → index last k + 1 ≡ place k
  unfolding place
  place_is k = omega arith

  test_is : (k : ℕ) → get_or waiting (index last k) false ≡ test (place k)
  unfolding test place
  test_is k = let e : index last k ≡ (last + k) % 8 + 1 - 1 = omega arith in ap (λ (i : ℕ). get_or waiting i false) e

  -- none of the first k places in the circle is marked
  pub Passed : ℕ → Type 0
  Passed k = (h : ℕ) → h < k → test (place h) ≡ false

  pub passed_none : Passed 0
  unfolding Passed
  passed_none h l = absurd (omega arith)

  pub passed_more : (k : ℕ) → Passed k → get_or waiting (index last k) false ≡ false → Passed (k + 1)
  unfolding Passed
  passed_more k p e h l = go (ℕ_discrete h k)
    where
      go : Dec (h ≡ k) → test (place h) ≡ false
      go (yes q) = ap (λ (j : ℕ). test (place j)) q ∙ sym (test_is k) ∙ e
      go (no q) = p h (omega arith)

  pub turn_is : (k : ℕ) → k < 8 → Passed k → get_or waiting (index last k) false ≡ true → index last k + 1 ≡ turn waiting last
  unfolding Passed turn round_robin list_below test place
  turn_is k l p e = place_is k ∙ sym (found_first test place 0 8 k zero-le (omega arith) (sym (test_is k) ∙ e) (λ h a b. p h b))

  pub turn_none : Passed 8 → 0 ≡ turn waiting last
  unfolding Passed turn round_robin list_below test place
  turn_none p = sym (found_none test place 0 8 (λ h a b. p h (omega arith)))

-- it is the place that a step serves
pub turn_served : (s : Server) (waiting : List Bool) → Waiting s waiting → turn waiting s.last ≡ served (state_of_server s)
unfolding turn served round_robin list_below
turn_served s waiting w =
    found_cong (λ p. get_or waiting (p - 1) false) (λ p. unfinished (spot_at (state_of_server s) p)) (λ k. (s.last + k) % 8 + 1)
    (λ k. w.marked ((s.last + k) % 8 + 1 - 1) (omega arith)) 0 8

-- ---- a step
pub step_none : (s : ServerState) → served s ≡ 0 → step s ≡ s
unfolding step
step_none s e = ap (serve s) e

pub step_some : (s : ServerState) (q : ℕ) → q ≡ served s → (q ≡ 0 → ⊥)
    → step s ≡ record { spots = set s.spots (q - 1) (advanced (spot_at s q)); last = q }
unfolding step
step_some s q e h =
    let one : suc (q - 1) ≡ q = omega arith in
    ap (serve s) (sym (one ∙ e)) ∙ ap (λ (l : ℕ). record { spots = set s.spots (q - 1) (advanced (spot_at s q)); last = l }) one

-- what is served is unfinished, and stays a box that is analysed
pub served_left : (s : ServerState) (q : ℕ) → q ≡ served s → (q ≡ 0 → ⊥) → unfinished (spot_at s q) ≡ true
unfolding served
served_left s q e h =
    let one : suc (q - 1) ≡ q = omega arith in
    ap (λ (p : ℕ). unfinished (spot_at s p)) (sym one)
    ∙ found_passes (λ p. unfinished (spot_at s p)) (round_robin s.last) (q - 1) (sym (one ∙ e))

pub sound_advanced : (x : Spot) → SoundSpot x → unfinished x ≡ true → SoundSpot (advanced x)
unfolding analysis_of
sound_advanced empty h u = h
sound_advanced (holds a) h u = record { box = h.box; narrow = h.narrow; few = omega (arith, (more_left a u).left); so_far = refl }

pub sound_step : (s : ServerState) → SoundSpots s.spots → SoundSpots (step s).spots
sound_step s h = go (ℕ_discrete (served s) 0)
  where
    go : Dec (served s ≡ 0) → SoundSpots (step s).spots
    go (yes e) = subst (λ (t : ServerState). SoundSpots t.spots) (sym (step_none s e)) h
    go (no e) =
        subst (λ (t : ServerState). SoundSpots t.spots) (sym (step_some s (served s) refl e))
        (sound_set s.spots _ _ h (sound_advanced (spot_at s (served s)) (sound_at s.spots _ h) (served_left s (served s) refl e)))
