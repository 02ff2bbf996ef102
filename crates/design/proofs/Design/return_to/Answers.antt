-- `design::Design::return_to` meets its contract: refused, the design is as it was; else the rows are those of the mark. Assumes nothing.
use mathlib.Core.Path.{◌≡◌, sym, ◌∙◌}
use mathlib.Core.Bool.{true}
use borrow.Author.Tests.{eq-eqb, ne_eqb}
use Rattle.refusals.specs.Table.{in_range}
use Rattle.refusals.proofs.Checks.{found, skip, stop, end}
use Rattle.refusals.proofs.Bounds.{range_low, range_high}
use Rattle.design.specs.Model.{return_checks}
use Rattle.design.specs.Calls.{state_of_design}
use Rattle.design.proofs.Held.{set_at, return_refused, return_done}
use Rattle.design.proofs.Design.return_to.Goals as goal

pub returns-then-not-in_range : goal.returns-then-not-in_range
unfolding return_checks state_of_design
returns-then-not-in_range c =
    let a = c.args in
    return_refused a.self a.k (sym (found (stop (sym c.if-not-in_range.ensures)))) c.declined.ensures

pub returns-then-not-in_range-2 : goal.returns-then-not-in_range-2
unfolding return_checks state_of_design
returns-then-not-in_range-2 c =
    let boxed : in_range 1 8 c.args.self.n ≡ true = sym c.if-not-in_range.ensures in
    let a = c.args in
    let out = sym c.if-not-in_range-2.ensures in
    return_refused a.self a.k (sym (found (skip boxed (stop out)))) c.declined-then-not-in_range-2.ensures

pub returns-then-here-ne1 : goal.returns-then-here-ne1
unfolding return_checks state_of_design
returns-then-here-ne1 c =
    let boxed : in_range 1 8 c.args.self.n ≡ true = sym c.if-not-in_range.ensures in
    let numbered : in_range 1 16 c.args.k ≡ true = sym c.if-not-in_range-2.ensures in
    let a = c.args in
    let out = sym (set_at a.self a.k) ∙ ne_eqb _ 1 c.if-here-ne1.true in
    return_refused a.self a.k (sym (found (skip boxed (skip numbered (stop out))))) c.declined-then-here-ne1.ensures

pub returns : goal.returns
unfolding return_checks state_of_design
returns c =
    let boxed : in_range 1 8 c.args.self.n ≡ true = sym c.if-not-in_range.ensures in
    let numbered : in_range 1 16 c.args.k ≡ true = sym c.if-not-in_range-2.ensures in
    let a = c.args in
    let b = boxed in
    let q = numbered in
    let t = eq-eqb _ 1 c.if-here-ne1.false in
    let h = sym (found (skip b (skip q (skip (sym (set_at a.self a.k) ∙ t) end)))) in
    return_done a.self a.k b (range_low 1 16 a.k q) (range_high 1 16 a.k q) t h
