-- `design::Design::mark` meets its contract: refused, the design is as it was; else the mark keeps the rows. Assumes nothing.
use mathlib.Core.Path.{◌≡◌, sym}
use mathlib.Core.Bool.{true}
use Rattle.refusals.specs.Table.{in_range}
use Rattle.refusals.proofs.Checks.{found, skip, stop, end}
use Rattle.design.specs.Model.{mark_checks}
use Rattle.design.specs.Calls.{state_of_design}
use Rattle.design.proofs.Held.{mark_refused, mark_done}
use Rattle.design.proofs.Design.mark.Goals as goal

pub returns-then-not-in_range : goal.returns-then-not-in_range
unfolding mark_checks state_of_design
returns-then-not-in_range c =
    let a = c.args in
    mark_refused a.self a.k (sym (found (stop (sym c.if-not-in_range.ensures)))) c.declined.ensures

pub returns-then-not-in_range-2 : goal.returns-then-not-in_range-2
unfolding mark_checks state_of_design
returns-then-not-in_range-2 c =
    let boxed : in_range 1 8 c.args.self.n ≡ true = sym c.if-not-in_range.ensures in
    let a = c.args in
    let out = sym c.if-not-in_range-2.ensures in
    mark_refused a.self a.k (sym (found (skip boxed (stop out)))) c.declined-then-not-in_range-2.ensures

pub returns : goal.returns
unfolding mark_checks state_of_design
returns c =
    let boxed : in_range 1 8 c.args.self.n ≡ true = sym c.if-not-in_range.ensures in
    let numbered : in_range 1 16 c.args.k ≡ true = sym c.if-not-in_range-2.ensures in
    let a = c.args in
    mark_done a.self a.k (sym (found (skip boxed (skip numbered end))))
