-- The addition is refused, or nothing is written.
use Rattle.std.specs.Prelude.{Ok, Err}
use Rattle.std.proofs.Common.{[], ◌+◌, ◌%◌, ◌++◌, refl, ◌∙◌, subst, length-take-le}
use Rattle.std.specs.Io.KnownBytes.{Appends}
use Rattle.std.proofs.KnownBytes.{Appends-nil}
use Rattle.lines.specs.Lines.{refused_text}
use Rattle.lines.proofs.Texts.{then_text, same_text}
use Rattle.published.specs.Printed.{nonlinearity_shown, refused_shown}
use Rattle.published.proofs.Printed.{addition_is}
use Rattle.published.proofs.show_refused.Goals as goal

pub returns-in-Ok : goal.returns-in-Ok
unfolding refused_shown
returns-in-Ok g c =
    let a = c.args in
    let lent = length-take-le c.smaller-size.result _ c.smaller-size.ensures.2 in
    subst (Appends _ _)
    (addition_is (λ _. []) (λ k. refused_text k ++ nonlinearity_shown a.n a.m a.rows.now) a.n a.m a.rows.now (a.m % 65536 + 1) 0 0 _
    c.add_to_column.new.out (Ok tt) (lent ∙ c.smaller-size.ensures.0) c.in-Ok.ensures)
    (Appends-nil _)

pub returns-in_ok-write_refused-in-Err : goal.returns-in_ok-write_refused-in-Err
unfolding refused_shown
returns-in_ok-write_refused-in-Err g c =
    let a = c.args in
    let lent = length-take-le c.smaller-size.result _ c.smaller-size.ensures.2 in
    same_text _ _ _ _ _ (then_text _ _ _ _ _ _ _ c.in_ok-write_refused-in-Err.ensures refl c.show_nonlinearity.ensures)
    (addition_is (λ _. []) (λ k. refused_text k ++ nonlinearity_shown a.n a.m a.rows.now) a.n a.m a.rows.now (a.m % 65536 + 1) 0 0 _
    c.add_to_column.new.out (Err c.in-Err.e) (lent ∙ c.smaller-size.ensures.0) c.in-Err.ensures)
