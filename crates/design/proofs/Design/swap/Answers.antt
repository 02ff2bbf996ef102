-- `design::Design::swap` meets its contract: refused, the design is as it was; else the two rows are exchanged. Assumes nothing.
use mathlib.Core.Path.{◌≡◌, sym}
use mathlib.Core.Bool.{true}
use Prim.Native.Nat.{◌<◌, ◌≤◌, ◌^◌}
use native.Mathlib.Omega.{arith}
use Rattle.refusals.specs.Table.{in_range}
use Rattle.refusals.proofs.Checks.{found, stop}
use Rattle.design.specs.Model.{swap_checks}
use Rattle.design.specs.Calls.{state_of_design}
use Rattle.design.proofs.Operations.{swap_first_out, swap_second_out}
use Rattle.design.proofs.Held.{inside, swap_refused, swap_done}
use Rattle.design.proofs.Design.swap.Goals as goal

pub returns-then-not-in_range : goal.returns-then-not-in_range
unfolding swap_checks state_of_design
returns-then-not-in_range c =
    let a = c.args in
    let h = sym (found (stop (sym c.if-not-in_range.ensures))) in
    swap_refused a.self a.x a.y h c.declined.ensures

pub returns-then-size-i : goal.returns-then-size-i
unfolding state_of_design
returns-then-size-i c =
    let boxed : in_range 1 8 c.args.self.n ≡ true = sym c.if-not-in_range.ensures in
    let a = c.args in
    let out : 2 ^ a.self.n ≤ a.x = omega (arith, c.power_of_two-size.ensures.0, c.if-size-i.true) in
    swap_refused a.self a.x a.y (swap_first_out (state_of_design a.self) a.x a.y boxed out) c.declined-then-size-i.ensures

pub returns-then-size-j : goal.returns-then-size-j
unfolding state_of_design
returns-then-size-j c =
    let boxed : in_range 1 8 c.args.self.n ≡ true = sym c.if-not-in_range.ensures in
    let a = c.args in
    let e = c.power_of_two-size.ensures.0 in
    let one : a.x < 2 ^ a.self.n = omega (arith, e, c.if-size-i.false) in
    let out : 2 ^ a.self.n ≤ a.y = omega (arith, e, c.if-size-j.true) in
    swap_refused a.self a.x a.y (swap_second_out (state_of_design a.self) a.x a.y boxed one out) c.declined-then-size-j.ensures

pub returns : goal.returns
returns c =
    let boxed : in_range 1 8 c.args.self.n ≡ true = sym c.if-not-in_range.ensures in
    let passed_x : (c.args.x < 2 ^ c.args.self.n) × (c.args.x < 256) = (omega (arith, c.power_of_two-size.ensures.0, c.if-size-i.false), inside c.args.self.n c.args.x boxed c.power_of_two-size.ensures.0 c.if-size-i.false) in
    let passed_y : (c.args.y < 2 ^ c.args.self.n) × (c.args.y < 256) = (omega (arith, c.power_of_two-size.ensures.0, c.if-size-j.false), inside c.args.self.n c.args.y boxed c.power_of_two-size.ensures.0 c.if-size-j.false) in
    let a = c.args in
    swap_done a.self a.x a.y boxed passed_x.0 passed_y.0
