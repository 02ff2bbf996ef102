-- The rows that are shown are those that the addition left.
use Rattle.std.specs.Prelude.{Ok, Err}
use Rattle.std.proofs.Common.{[], ap, ◌∙◌, subst, length-take-le}
use Rattle.std.specs.Io.KnownBytes.{Appends}
use Rattle.std.proofs.KnownBytes.{Appends-nil}
use Rattle.boolean.proofs.Lists.{part_is}
use Rattle.lines.proofs.Texts.{same_text}
use Rattle.published.specs.Printed.{and_refused_shown, second_shown}
use Rattle.published.proofs.Printed.{addition_is}
use Rattle.published.proofs.show_second.Goals as goal

pub returns-in-Ok : goal.returns-in-Ok
unfolding second_shown
returns-in-Ok g c =
    let a = c.args in
    let lent = length-take-le c.smaller-size.result _ c.smaller-size.ensures.2 in
    let rows = part_is c.add_to_column.new.out _ c.smaller-size.result (c.add_to_column.auto.out ∙ lent) in
    same_text _ _ _ _ _ c.show_and_refuse.ensures
    (ap (and_refused_shown a.n a.m) rows
    ∙ addition_is (and_refused_shown a.n a.m) (λ _. []) a.n a.m a.rows.now c.args.m 5 0 _ c.add_to_column.new.out (Ok tt) (lent ∙ c.smaller-size.ensures.0)
    c.in-Ok.ensures)

pub returns-in-Err : goal.returns-in-Err
unfolding second_shown
returns-in-Err g c =
    let a = c.args in
    let lent = length-take-le c.smaller-size.result _ c.smaller-size.ensures.2 in
    subst (Appends _ _)
    (addition_is (and_refused_shown a.n a.m) (λ _. []) a.n a.m a.rows.now c.args.m 5 0 _ c.add_to_column.new.out (Err c.in-Err.field-0)
    (lent ∙ c.smaller-size.ensures.0) c.in-Err.ensures)
    (Appends-nil _)
