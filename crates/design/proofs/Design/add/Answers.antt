-- `design::Design::add` meets its contract: what column addition answered, and its rows where it accepted.
use mathlib.Core.Path.{◌≡◌, sym, ap, ◌∙◌}
use mathlib.Core.Bool.{true}
use mathlib.Core.List.{[]}
use Prim.Native.Nat.{ℕ, ◌≤◌}
use lib.ListN.{length, take}
use lib.Seq.{length-take-le}
use Rattle.refusals.specs.Table.{first, in_range, reply_after, said_written}
use Rattle.refusals.proofs.Checks.{found, stop}
use Rattle.columns.specs.Addition.{addition_checks}
use Rattle.design.specs.Model.{design_add_checks}
use Rattle.design.specs.Calls.{state_of_design}
use Rattle.design.proofs.Held.{few, add_refused, add_declined, add_done}
use Rattle.design.proofs.Design.add.Goals as goal

pub returns-then-not-in_range : goal.returns-then-not-in_range
unfolding design_add_checks state_of_design
returns-then-not-in_range c =
    let a = c.args in
    add_refused a.self a.j a.w a.b (sym (found (stop (sym c.if-not-in_range.ensures)))) c.declined.ensures

pub returns-in-Err : goal.returns-in-Err
returns-in-Err c =
    let boxed : in_range 1 8 c.args.self.n ≡ true = sym c.if-not-in_range.ensures in
    let fits : c.power_of_two-size.result ≤ 256 = few c.args.self.n boxed c.power_of_two-size.ensures.0 in
    let answered : (room : ℕ) × (room ≡ c.power_of_two-size.result) × (said_written c.add_to_column-added.result ≡ reply_after (first (addition_checks c.args.self.n c.args.self.m (take c.power_of_two-size.result c.args.self.rows) c.args.j c.args.w c.args.b room)) []) = (_, length-take-le _ _ fits, c.add_to_column-added.ensures.reply) in
    let a = c.args in
    let t = answered in
    let h = sym (ap said_written c.in-Err.is) ∙ t.2 in
    add_declined a.self a.j a.w a.b _ t.0 boxed c.power_of_two-size.ensures.0 t.1 h c.declined-in-Err.ensures

pub returns : goal.returns
returns c =
    let boxed : in_range 1 8 c.args.self.n ≡ true = sym c.if-not-in_range.ensures in
    let fits : c.power_of_two-size.result ≤ 256 = few c.args.self.n boxed c.power_of_two-size.ensures.0 in
    let answered : (room : ℕ) × (room ≡ c.power_of_two-size.result) × (said_written c.add_to_column-added.result ≡ reply_after (first (addition_checks c.args.self.n c.args.self.m (take c.power_of_two-size.result c.args.self.rows) c.args.j c.args.w c.args.b room)) []) = (_, length-take-le _ _ fits, c.add_to_column-added.ensures.reply) in
    let a = c.args in
    let t = answered in
    let h = sym (ap said_written c.in_default.is) ∙ t.2 in
    add_done a.self a.j a.w a.b _ t.0 boxed c.power_of_two-size.ensures.0 t.1 h _ _ c.add_to_column-added.ensures.content
