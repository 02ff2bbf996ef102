-- What the checks of an addition say where they accept it.
-- Assumes nothing.
use Rattle.std.specs.Prelude.{Ok}
use Prim.Native.Nat.{ℕ, ◌^◌, ◌≤◌, ◌<◌}
use mathlib.Core.Path.{◌≡◌, sym, ◌∙◌}
use mathlib.Core.List.{List}
use native.Mathlib.Nat.{le_trans}
use borrow.Author.Tests.{eqb-true, ltb-true}
use lib.ListN.{length}
use Rattle.refusals.specs.Table.{first, Box, box_checks}
use Rattle.refusals.proofs.Bounds.{range_low, range_high}
use Rattle.refusals.proofs.Checks.{box, passed, accepted_after}
use Rattle.columns.specs.Addition.{addition_checks}

pub record Accepts (n m : ℕ) (rows : List ℕ) (j w b room : ℕ) : Type 0 where
  pub sound : Box n m rows
  pub j_low : 1 ≤ j
  pub j_high : j ≤ m
  pub j_fits : j ≤ 32
  pub w_below : w < 2 ^ n
  pub b_bit : b < 2
  pub room_is : room ≡ 2 ^ n
  pub room_same : room ≡ length rows

pub accepts : (n m : ℕ) (rows : List ℕ) (j w b room : ℕ) → first (addition_checks n m rows j w b room) ≡ (Ok tt) → Accepts n m rows j w b room
unfolding addition_checks
accepts n m rows j w b room h =
    let sound : Box n m rows = box n m rows _ h in
    let p = passed _ (accepted_after (box_checks n m rows) _ h) in
    let j_high : j ≤ m = range_high 1 m j p.0 in
    let room_is : room ≡ 2 ^ n = eqb-true room (2 ^ n) p.1.1.1.0 in
    record {
      sound = sound;
      j_low = range_low 1 m j p.0;
      j_high = j_high;
      j_fits = le_trans j_high sound.m_high;
      w_below = ltb-true w (2 ^ n) p.1.0;
      b_bit = ltb-true b 2 p.1.1.0;
      room_is = room_is;
      room_same = room_is ∙ sym sound.size;
    }
