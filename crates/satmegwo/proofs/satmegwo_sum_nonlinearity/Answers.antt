-- `satmegwo::satmegwo_sum_nonlinearity` meets its contract: that of the call, with its figures in the lent array,
-- whose length is looked at before the sweep.
use mathlib.Core.Path.{ap, ◌∙◌}
use mathlib.Core.List.{[], ◌∷◌}
use Rattle.boolean.specs.Functions.{components}
use Rattle.boolean.specs.Selection.{shown}
use Rattle.refusals.specs.Table.{first}
use Rattle.rounds.specs.Round.{summand_of, first_given, outputs_of, sum_nonlinearity, sum_checks}
use Rattle.rounds.proofs.Reported.{figures_number}
use Rattle.border.specs.Border.{room_number}
use Rattle.border.proofs.Giving.{gives_same, room_first}
use Rattle.satmegwo.proofs.satmegwo_sum_nonlinearity.Goals as goal

pub returns-then-figures-count : goal.returns-then-figures-count
returns-then-figures-count c =
    let a = c.args in
    let one = summand_of a.n1 a.m1 a.rows1.now in
    let two = summand_of a.n2 a.m2 a.rows2.now in
    let three = summand_of a.n3 a.m3 a.rows3.now in
    let four = summand_of a.n4 a.m4 a.rows4.now in
    let boxes = one ∷ two ∷ three ∷ four ∷ [] in
    let given = first_given a.count boxes in
    room_first (first (sum_checks a.count boxes a.i)) (shown (sum_nonlinearity given (components (outputs_of given) a.i)))
    (c.number_for_room.ensures ∙ ap room_number c.check_sum-found.ensures)
    (λ accepted e. c.if-figures-count.true (e ∙ figures_number a.count one two three four a.i accepted))

pub returns : goal.returns
returns c =
    gives_same c.sum_nonlinearity-answer.ensures.says c.give_sum.ensures
