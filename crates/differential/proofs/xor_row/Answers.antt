-- `differential::xor_row` meets its contract: what the checks found says which case it is, in the reply and in the array.
use mathlib.Core.List.{List}
use mathlib.Core.Path.{◌≡◌, ◌∙◌, sym}
use Prim.Native.Nat.{ℕ, ◌-◌, ◌^◌, ◌≤◌, ◌<◌}
use native.Mathlib.Omega.{arith}
use borrow.Author.Tests.{eqb-true}
use lib.Dec.{lit≤}
use lib.ListN.{length}
use lib.Pow.{pow_pos}
use lib.Seq.{length-take-le}
use Rattle.refusals.specs.Table.{first, box_checks_up_to, Box}
use Rattle.refusals.proofs.Bounds.{range_high}
use Rattle.refusals.proofs.Checks.{passed, accepted_after, box_up_to}
use Rattle.refusals.proofs.Outcomes.{wrote_refused, wrote_accepted}
use Rattle.differential.specs.Calls.{row_checks}
use Rattle.std.specs.Prelude.{Ok}
use Rattle.differential.proofs.xor_row.Goals as goal

-- accepted: a box, an input difference, and an array that is as long as a row
module _ (n m : ℕ) (rows : List ℕ) (a room : ℕ) (h : first (row_checks n m rows a room) ≡ Ok tt) where
  the_box : Box n m rows
  unfolding row_checks
  the_box = box_up_to 16 n m rows _ (lit≤ tt) h

  the_difference : a < 2 ^ n
  unfolding row_checks
  the_difference =
      let le : a ≤ 2 ^ n - 1 = range_high 1 (2 ^ n - 1) a (passed _ (accepted_after (box_checks_up_to 16 n m rows) _ h)).0 in
      omega (arith, pow_pos n)

  the_room : room ≡ 2 ^ m
  unfolding row_checks
  the_room = eqb-true room (2 ^ m) (passed _ (accepted_after (box_checks_up_to 16 n m rows) _ h)).1.0

pub slice_bounds-differences-end : goal.slice_bounds-differences-end
slice_bounds-differences-end c = ((the_box _ _ _ _ _ ((sym c.in_ok-check_row.ensures)))).small

pub slice_bounds-write_row-end : goal.slice_bounds-write_row-end
slice_bounds-write_row-end c = sym (length-take-le _ _ ((the_box _ _ _ _ _ ((sym c.in_ok-check_row.ensures)))).small)

pub write_row-requires : goal.write_row-requires
write_row-requires c =
    let b = (the_box _ _ _ _ _ ((sym c.in_ok-check_row.ensures))) in (
      record { box = b; size = length-take-le _ _ b.small ∙ b.size },
      the_difference _ _ _ _ _ ((sym c.in_ok-check_row.ensures)),
      the_room _ _ _ _ _ ((sym c.in_ok-check_row.ensures)),
    )
