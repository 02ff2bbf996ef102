-- `satmegwo::satmegwo_raising_swap` meets its contract: that of the call, with its figures in the lent array,
-- whose length is looked at before the search.
use Rattle.std.specs.Prelude.{Ok}
use mathlib.Core.Path.{sym, ap, ◌∙◌}
use Rattle.refusals.specs.Table.{first, box_checks_up_to}
use Rattle.swaps.specs.Swaps.{raised}
use Rattle.swaps.specs.Calls.{said_raising_swap}
use Rattle.border.specs.Border.{room_number}
use Rattle.border.proofs.Giving.{gives_refused, gives_same, room_first}
use Rattle.satmegwo.proofs.Sizes.{swap_size}
use Rattle.satmegwo.proofs.satmegwo_raising_swap.Goals as goal

pub returns-then-figures-ne4 : goal.returns-then-figures-ne4
returns-then-figures-ne4 c =
    let a = c.args in
    let found = first (box_checks_up_to 8 a.n a.m a.rows.now) in
    room_first found (raised a.n a.m a.rows.now) (c.number_for_room.ensures ∙ ap room_number c.check_box_up_to.ensures)
    (λ ok e. c.if-figures-ne4.true (e ∙ swap_size a.n a.m a.rows.now))

pub returns-in-Ok-Some : goal.returns-in-Ok-Some
returns-in-Ok-Some c =
    gives_same (sym (ap said_raising_swap (c.in-Ok-Some.is ∙ ap Ok c.in-Ok-Some.field-0-is)) ∙ c.raising_swap.ensures) c.give.ensures

pub returns-in-Ok-None : goal.returns-in-Ok-None
returns-in-Ok-None c =
    gives_same (sym (ap said_raising_swap (c.in-Ok-None.is ∙ ap Ok c.in-Ok-None.field-0-is)) ∙ c.raising_swap.ensures)
    c.give-in-Ok-None.ensures

pub returns-in-Err : goal.returns-in-Err
returns-in-Err c =
    gives_same (sym (ap said_raising_swap c.in-Err.is) ∙ c.raising_swap.ensures) (gives_refused c.number_of.ensures)
