-- `satmegwo::satmegwo_autocorrelation` meets its contract: that of the call, with its figures in the lent array,
-- whose length is looked at before the sweep.
use mathlib.Core.Path.{ap, ◌∙◌}
use Rattle.boolean.specs.Selection.{shown}
use Rattle.refusals.specs.Table.{first, limit_checks}
use Rattle.avalanche.specs.Avalanche.{box_autocorrelation}
use Rattle.border.specs.Border.{room_number}
use Rattle.border.proofs.Giving.{gives_same, room_first}
use Rattle.satmegwo.proofs.Sizes.{change_size}
use Rattle.satmegwo.proofs.satmegwo_autocorrelation.Goals as goal

pub returns-then-figures-ne3 : goal.returns-then-figures-ne3
returns-then-figures-ne3 c =
    let a = c.args in
    let found = first (limit_checks a.n a.m a.rows.now a.i) in
    room_first found (shown (box_autocorrelation a.n a.m a.rows.now a.i))
    (c.number_for_room.ensures ∙ ap room_number c.check_limited.ensures)
    (λ ok e. c.if-figures-ne3.true (e ∙ change_size a.n a.m a.rows.now a.i ok))

pub returns : goal.returns
returns c =
    gives_same c.autocorrelation.ensures c.give_change.ensures
