-- `design::Design::begin` meets its contract: an accepted box, with no mark set, and else none.
use Rattle.std.specs.Prelude.{Ok}
use mathlib.Core.Path.{◌≡◌, sym, ap, ◌∙◌}
use mathlib.Core.List.{[]}
use Prim.Native.Nat.{◌≤◌}
use lib.ListN.{length}
use lib.Seq.{length-take-le}
use Rattle.refusals.specs.Table.{first, box_checks, said_written}
use Rattle.refusals.proofs.Checks.{box, reply_refused, reply_accepted}
use Rattle.design.proofs.Held.{begin_refused, begin_done}
use Rattle.design.proofs.Design.begin.Goals as goal

pub returns-in-Err : goal.returns-in-Err
returns-in-Err c =
    let a = c.args in
    let u = c.unset-none in
    let h = sym c.check_box.ensures ∙ c.in-Err.is in
    let g = c.declined.ensures in
    record { reply = ap said_written g.1 ∙ reply_refused h []; whole = g.0 ∙ begin_refused a.n a.m a.rows.now u.result u.ensures h }

pub slice_bounds-held-end : goal.slice_bounds-held-end
slice_bounds-held-end c =
    let accepted : first (box_checks c.args.n c.args.m c.args.rows.now) ≡ (Ok tt) = sym c.check_box.ensures ∙ c.in_default.is in
    let fits : length c.args.rows.now ≤ 256 = (box c.args.n c.args.m c.args.rows.now [] accepted).small in
    fits

pub slice_bounds-copy_from_slice-end : goal.slice_bounds-copy_from_slice-end
slice_bounds-copy_from_slice-end c =
    let accepted : first (box_checks c.args.n c.args.m c.args.rows.now) ≡ (Ok tt) = sym c.check_box.ensures ∙ c.in_default.is in
    let fits : length c.args.rows.now ≤ 256 = (box c.args.n c.args.m c.args.rows.now [] accepted).small in
    sym (length-take-le _ _ fits)

pub copy_from_slice-requires : goal.copy_from_slice-requires
copy_from_slice-requires c =
    let accepted : first (box_checks c.args.n c.args.m c.args.rows.now) ≡ (Ok tt) = sym c.check_box.ensures ∙ c.in_default.is in
    let fits : length c.args.rows.now ≤ 256 = (box c.args.n c.args.m c.args.rows.now [] accepted).small in
    length-take-le _ _ fits

pub returns : goal.returns
returns c =
    let accepted : first (box_checks c.args.n c.args.m c.args.rows.now) ≡ (Ok tt) = sym c.check_box.ensures ∙ c.in_default.is in
    let a = c.args in
    let u = c.unset-none in
    let h = accepted in
    record { reply = reply_accepted h []; whole = begin_done a.n a.m a.rows.now u.result u.ensures h c.copy_from_slice.ensures.after }
