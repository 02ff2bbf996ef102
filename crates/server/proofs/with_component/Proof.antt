-- `server::with_component` meets its contract: an accepted box, and arrays that are as long. Assumes nothing.
use Rattle.std.specs.Prelude.{Ok}
use mathlib.Core.List.{[]}
use mathlib.Core.Path.{◌≡◌, ap, ◌∙◌, sym}
use borrow.Author.Rules.{rules}
use lib.Seq.{length-take-le}
use Rattle.refusals.specs.Table.{Box, first, box_checks}
use Rattle.refusals.proofs.Checks.{box}
use Rattle.linear.specs.Calls.{pair_candidate}
use Rattle.server.specs.Calls.{found_of}
use Rattle.server.proofs.Boxes.{better_none, better_some}
use Rattle.server.proofs.with_component.Statement.{statement}
use Rattle.server.proofs.with_component.Tie as tie

returns : tie.Need-returns-in-Err
returns c =
    let a = c.args in
    sym (ap found_of (better_none a.n a.m a.rows.now (pair_candidate a.found) a.c (sym c.check_box.ensures ∙ c.in-Err.is)))

accepted : (c : tie.In_default) → let a = c.args in first (box_checks a.n a.m a.rows.now) ≡ (Ok tt)
accepted c = sym c.check_box.ensures ∙ c.in_default.is

boxed : (c : tie.In_default) → let a = c.args in Box a.n a.m a.rows.now
boxed c = let a = c.args in box a.n a.m a.rows.now [] (accepted c)

array_borrow_prefix_table : tie.Need-slice_bounds-table-end
array_borrow_prefix_table c = (boxed c).small

slice_aggregate_with_arrays : tie.Need-slice_bounds-with_arrays-end
slice_aggregate_with_arrays c = sym (length-take-le _ _ (boxed c.before).small)

array_borrow_prefix_work : tie.Need-slice_bounds-work-end
array_borrow_prefix_work c = (boxed c.before).small

slice_aggregate_with_arrays_2 : tie.Need-slice_bounds-with_arrays-end-2
slice_aggregate_with_arrays_2 c = sym (length-take-le _ _ (boxed c.before.before).small)

array_borrow_prefix_values : tie.Need-slice_bounds-values-end
array_borrow_prefix_values c = (boxed c.before.before).small

slice_aggregate_with_arrays_3 : tie.Need-slice_bounds-with_arrays-end-3
slice_aggregate_with_arrays_3 c = sym (length-take-le _ _ (boxed c.before.before.before).small)

with_arrays_requires : tie.Need-with_arrays-requires
with_arrays_requires c κs =
    let b = boxed c.before.before.before in (
      record { box = b; table_size = length-take-le _ _ b.small ∙ b.size; out_size = length-take-le _ _ b.small ∙ b.size },
      c.requires,
      length-take-le _ _ b.small ∙ b.size,
    )

returns-2 : tie.Need-returns
returns-2 c =
    let a = c.args in
    ap found_of
    (c.with_arrays.ensures.0 ∙ sym (better_some a.n a.m a.rows.now (pair_candidate a.found) a.c (accepted c.before.before.before.before.before.before.before)))

pub with_component_spec : {M : Type 1} → statement M
with_component_spec =
    tie.close
    (tie.spec (λ c κs. search rules) (λ c. search rules) returns (λ c. search rules) array_borrow_prefix_table
    slice_aggregate_with_arrays array_borrow_prefix_work slice_aggregate_with_arrays_2 array_borrow_prefix_values slice_aggregate_with_arrays_3
    with_arrays_requires returns-2)
