-- What the checks of writing say where they accept, and back. Assumes nothing.
use Rattle.std.specs.Prelude.{Ok}
use Prim.Native.Nat.{ℕ, ◌+◌, ◌*◌, ◌^◌}
use mathlib.Core.Path.{◌≡◌, sym}
use mathlib.Core.List.{List}
use borrow.Author.Tests.{eqb-true, eq-eqb}
use Rattle.refusals.specs.Table.{first, box_checks, Box}
use Rattle.refusals.proofs.Checks.{box, box_accepted, passed, accepted_after, found_after, skip, end}
use Rattle.boxfile.specs.File.{write_checks}

module _ (n m : ℕ) (rows : List ℕ) (room : ℕ) where
  pub box_written : first (write_checks n m rows room) ≡ (Ok tt) → Box n m rows
  unfolding write_checks
  box_written h = box n m rows _ h

  pub room_written : first (write_checks n m rows room) ≡ (Ok tt) → room ≡ 2 + 4 * 2 ^ n
  unfolding write_checks
  room_written h = eqb-true room (2 + 4 * 2 ^ n) (passed _ (accepted_after (box_checks n m rows) _ h)).0

  pub write_accepted : Box n m rows → room ≡ 2 + 4 * 2 ^ n → first (write_checks n m rows room) ≡ (Ok tt)
  unfolding write_checks
  write_accepted b e = sym (found_after _ (box_accepted n m rows b) (skip (eq-eqb room (2 + 4 * 2 ^ n) e) end))
