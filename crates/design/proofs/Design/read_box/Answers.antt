-- `design::Design::read_box` meets its contract: n and m are answered and the rows written where the array is as long.
use mathlib.Core.Path.{◌≡◌, sym, ap, ◌∙◌}
use mathlib.Core.Bool.{true}
use Prim.Native.Nat.{ℕ}
use lib.ListN.{take}
use Rattle.refusals.specs.Table.{in_range}
use Rattle.refusals.proofs.Checks.{differs, equals, found, skip, stop, end, reply_refused, reply_accepted, after_refused, after_accepted}
use Rattle.design.specs.Model.{design_read_checks}
use Rattle.design.specs.Calls.{state_of_design}
use Rattle.design.proofs.Design.read_box.Goals as goal

pub returns-then-not-in_range : goal.returns-then-not-in_range
unfolding design_read_checks state_of_design
returns-then-not-in_range c =
    let h = sym (found (stop (sym c.if-not-in_range.ensures))) in
    record { reply = reply_refused h _; content = after_refused h _ _ }

pub returns-then-rows-size : goal.returns-then-rows-size
unfolding design_read_checks state_of_design
returns-then-rows-size c =
    let boxed : in_range 1 8 c.args.self.n ≡ true = sym c.if-not-in_range.ensures in
    let h = sym (found (skip boxed (stop (differs c.power_of_two-size.ensures.0 c.if-rows-size.true)))) in
    record { reply = reply_refused h _; content = after_refused h _ _ }

pub returns : goal.returns
unfolding design_read_checks state_of_design
returns c =
    let boxed : in_range 1 8 c.args.self.n ≡ true = sym c.if-not-in_range.ensures in
    let e = c.power_of_two-size.ensures.0 in
    let h = sym (found (skip boxed (skip (equals e c.if-rows-size.false) end))) in
    record { reply = reply_accepted h _; content = c.copy_from_slice.ensures.after ∙ ap (λ (k : ℕ). take k c.args.self.rows) e ∙ after_accepted h _ _ }
