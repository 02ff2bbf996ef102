-- `satmegwo::satmegwo_dynamic_distance` meets its contract: that of the call, with its figures in the lent array,
-- whose length is looked at before the sweep.
use mathlib.Core.Path.{ap, ◌∙◌}
use Rattle.boolean.specs.Selection.{shown}
use Rattle.refusals.specs.Table.{first}
use Rattle.avalanche.specs.Avalanche.{dynamic_distance}
use Rattle.avalanche.specs.Calls.{distance_checks}
use Rattle.border.specs.Border.{room_number}
use Rattle.border.proofs.Giving.{gives_same, room_first}
use Rattle.satmegwo.proofs.Sizes.{distance_size}
use Rattle.satmegwo.proofs.satmegwo_dynamic_distance.Goals as goal

pub returns-then-figures-ne3 : goal.returns-then-figures-ne3
returns-then-figures-ne3 c =
    let a = c.args in
    let found = first (distance_checks a.n a.m a.rows.now a.i a.j) in
    room_first found (shown (dynamic_distance a.n a.m a.rows.now a.i a.j))
    (c.number_for_room.ensures ∙ ap room_number c.check_distance.ensures)
    (λ ok e. c.if-figures-ne3.true (e ∙ distance_size a.n a.m a.rows.now a.i a.j ok))

pub returns : goal.returns
returns c =
    gives_same c.dynamic_distance.ensures c.give_change.ensures
