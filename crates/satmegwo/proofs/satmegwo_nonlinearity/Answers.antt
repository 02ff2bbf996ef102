-- `satmegwo::satmegwo_nonlinearity` meets its contract: that of the call, with its figures in the lent array,
-- whose length is looked at before the sweep.
use mathlib.Core.Path.{sym, ap, ◌∙◌}
use Rattle.boolean.specs.Selection.{shown}
use Rattle.refusals.specs.Table.{first, limit_checks}
use Rattle.linear.specs.Nonlinearity.{nonlinearity}
use Rattle.linear.specs.Calls.{said_least_pair}
use Rattle.border.specs.Border.{room_number}
use Rattle.border.proofs.Giving.{gives_refused, gives_same, room_first}
use Rattle.satmegwo.proofs.Sizes.{pair_size}
use Rattle.satmegwo.proofs.satmegwo_nonlinearity.Goals as goal

pub returns-then-figures-ne4 : goal.returns-then-figures-ne4
returns-then-figures-ne4 c =
    let a = c.args in
    let found = first (limit_checks a.n a.m a.rows.now a.i) in
    room_first found (shown (nonlinearity a.n a.m a.rows.now a.i))
    (c.number_for_room.ensures ∙ ap room_number c.check_limited.ensures)
    (λ ok e. c.if-figures-ne4.true (e ∙ pair_size a.n a.m a.rows.now a.i ok))

pub returns-in-Ok : goal.returns-in-Ok
returns-in-Ok c =
    gives_same (sym (ap said_least_pair c.in-Ok.is) ∙ c.nonlinearity.ensures) c.give.ensures

pub returns-in-Err : goal.returns-in-Err
returns-in-Err c =
    gives_same (sym (ap said_least_pair c.in-Err.is) ∙ c.nonlinearity.ensures) (gives_refused c.number_of.ensures)
