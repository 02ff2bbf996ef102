-- A box that is put on a place, and one of which one combination more was examined. Assumes nothing.
use Rattle.std.specs.Prelude.{Result, Ok, Err, ⊤}
use Prim.Native.Nat.{ℕ, suc, ◌+◌, ◌-◌, ◌^◌, ◌<◌, ◌≤◌}
use mathlib.Core.Path.{◌≡◌, sym, ap, ap₂, ◌∙◌, subst}
use mathlib.Core.Bool.{true}
use mathlib.Core.List.{List, [], ◌∷◌, ◌++◌}
use native.Mathlib.Numerals.{add-one}
use native.Mathlib.Omega.{arith}
use lib.ListN.{length, drop, replicate}
use lib.Pow.{pow_mono}
use Rattle.boolean.specs.Selection.{Candidate, best, lower, first_least, ranked}
use Rattle.refusals.specs.Table.{Box, first, box_checks, filled, after}
use Rattle.refusals.specs.declared.Refusal.{Refusal}
use Rattle.refusals.proofs.Checks.{box_accepted}
use Rattle.refusals.proofs.Bounds.{range_high}
use Rattle.masks.specs.Masks.{outputs}
use Rattle.linear.specs.Calls.{pair_candidate}
use Rattle.linear.specs.Nonlinearity.{pairs_of}
use Rattle.linear.proofs.Nearest.{nearest_of}
use Rattle.server.specs.declared.Place.{Place}
use Rattle.server.specs.Model.{held_of, analysis_of, Spot, holds, unfinished, advanced}
use Rattle.server.specs.Calls.{place_rows, analysis_in, spot_in, found_of, place_of, Analysed, SoundSpot, better, one_more_place}
use Rattle.server.proofs.Places.{Left, unfinished_taken, more_left, spot_box}
use Rattle.server.proofs.Held.{held_next}

-- a box of which nothing was examined
pub fresh_place : (n m : ℕ) (rows copied : List ℕ) → length rows ≡ 2 ^ n → copied ≡ rows
    → record {
      taken = 1;
      n = n;
      m = m;
      rows = copied ++ drop (length rows) (replicate 256 0);
      examined = 0;
      found = record { count = length rows + 1; c = 0; w = 0; b = 0 };
    } ≡ place_of (holds (analysis_of n m rows 0))
unfolding place_of analysis_of
fresh_place n m rows copied size same =
    ap₂ (λ (r : List ℕ) (k : ℕ).
    record { taken = 1; n = n; m = m; rows = r ++ drop (length rows) (replicate 256 0); examined = 0; found = record { count = k + 1; c = 0; w = 0; b = 0 } })
    same size

-- ---- the better of two pairs
module _ (n m : ℕ) (rows : List ℕ) (held : Candidate) (c : ℕ) where
  pub better_none : {e : Refusal} → first (box_checks n m rows) ≡ Err e → better n m rows held c ≡ held
  unfolding better
  better_none h = ap (λ (k : Result ⊤ Refusal). after k (best (ranked lower outputs) held (first_least (pairs_of n rows c) ∷ [])) held) h

  pub better_some : first (box_checks n m rows) ≡ (Ok tt) → better n m rows held c ≡ best (ranked lower outputs) held (nearest_of n rows c)
  unfolding better
  better_some h = ap (λ (k : Result ⊤ Refusal). after k (best (ranked lower outputs) held (first_least (pairs_of n rows c) ∷ [])) held) h

  better_box : Box n m rows → better n m rows held c ≡ best (ranked lower outputs) held (nearest_of n rows c)
  better_box b = better_some (box_accepted n m rows b)

-- ---- one combination more
module _ (p : Place) (u : unfinished (spot_in p) ≡ true) where
  is_taken_here : p.taken ≡ 1
  is_taken_here = unfinished_taken p u

  pub box_left : Left (analysis_in p)
  box_left = more_left (analysis_in p) (sym (ap unfinished (spot_box p is_taken_here)) ∙ u)

  -- a box that is unfinished is one of at most 65535 combinations, and its rows are within the array
  pub left_few : p.examined < 65535
  left_few =
      let h : 2 ^ p.m ≤ 2 ^ 16 = pow_mono (range_high 1 16 p.m box_left.outputs) in
      omega (arith, box_left.left)

  pub rows_room : 2 ^ p.n ≤ 256
  rows_room = let h : 2 ^ p.n ≤ 2 ^ 8 = pow_mono (range_high 1 8 p.n box_left.inputs) in omega arith

  -- where the place holds what the calls made, so it does then
  module _ (s : SoundSpot (spot_in p)) (only : p ≡ place_of (spot_in p)) where
    sound : Analysed (analysis_in p)
    sound = subst SoundSpot (spot_box p is_taken_here) s

    so_far : better p.n p.m (place_rows p) (pair_candidate p.found) (p.examined + 1) ≡ held_of p.n p.m (place_rows p) (suc p.examined)
    so_far =
        held_next p.n p.m (place_rows p) p.examined box_left.left sound.so_far
        (better_box p.n p.m (place_rows p) (pair_candidate p.found) (p.examined + 1) sound.box
        ∙ ap (λ (k : ℕ). best (ranked lower outputs) (pair_candidate p.found) (nearest_of p.n (place_rows p) k)) (add-one p.examined))

    rows_only : p.rows ≡ filled (place_rows p)
    unfolding place_of
    rows_only = ap (λ (q : Place). q.rows) (only ∙ ap place_of (spot_box p is_taken_here))

    pub one_more_sound : one_more_place p ≡ place_of (advanced (spot_in p))
    unfolding one_more_place place_of analysis_of
    one_more_sound =
        ap₂ (λ (t k : ℕ).
        record { taken = t; n = p.n; m = p.m; rows = p.rows; examined = k; found = found_of (better p.n p.m (place_rows p) (pair_candidate p.found) (p.examined + 1)) })
        is_taken_here (add-one p.examined)
        ∙ ap₂ (λ (r : List ℕ) (c : Candidate). record { taken = 1; n = p.n; m = p.m; rows = r; examined = suc p.examined; found = found_of c }) rows_only so_far
        ∙ sym (ap (λ (x : Spot). place_of (advanced x)) (spot_box p is_taken_here))
