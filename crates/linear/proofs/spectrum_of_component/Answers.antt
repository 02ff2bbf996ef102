-- `linear::spectrum_of_component` meets its contract: what the checks found says which case it is, in the reply and in the array.
use mathlib.Core.List.{List}
use mathlib.Core.Path.{◌≡◌, ◌∙◌, sym}
use Prim.Native.Nat.{ℕ, ◌^◌}
use borrow.Author.Tests.{eqb-true}
use lib.ListN.{length}
use lib.Seq.{length-take-le}
use Rattle.refusals.specs.Table.{first, box_checks, Box}
use Rattle.refusals.proofs.Checks.{passed, accepted_after, box}
use Rattle.refusals.proofs.Outcomes.{wrote_refused, wrote_accepted}
use Rattle.linear.specs.Calls.{component_checks}
use Rattle.std.specs.Prelude.{Ok}
use Rattle.linear.proofs.spectrum_of_component.Goals as goal

-- accepted: a box, and an array that is as long
module _ (n m : ℕ) (rows : List ℕ) (k room : ℕ) (h : first (component_checks n m rows k room) ≡ Ok tt) where
  the_box : Box n m rows
  unfolding component_checks
  the_box = box n m rows _ h

  the_room : room ≡ 2 ^ n
  unfolding component_checks
  the_room = eqb-true room (2 ^ n) (passed _ (accepted_after (box_checks n m rows) _ h)).1.0

pub slice_bounds-table-end : goal.slice_bounds-table-end
slice_bounds-table-end c = ((the_box _ _ _ _ _ (sym c.in_ok-check_component.ensures))).small

pub slice_bounds-component_spectrum-end : goal.slice_bounds-component_spectrum-end
slice_bounds-component_spectrum-end c = sym (length-take-le _ _ ((the_box _ _ _ _ _ (sym c.in_ok-check_component.ensures))).small)

pub component_spectrum-requires : goal.component_spectrum-requires
component_spectrum-requires c =
    let b = (the_box _ _ _ _ _ (sym c.in_ok-check_component.ensures)) in (
      record { box = b; table_size = length-take-le _ _ b.small ∙ b.size; out_size = the_room _ _ _ _ _ (sym c.in_ok-check_component.ensures) },
      c.spectra-fixed.ensures,
    )
