use Rattle.std.proofs.Common.{ℕ, List, [], ◌++◌, refl, ap, subst}
use Rattle.std.specs.Prelude.{codes}
use Rattle.std.specs.Io.KnownBytes.{Appends}
use Rattle.std.proofs.KnownBytes.{Appends-nil}
use Rattle.refusals.specs.Table.{Reply}
use Rattle.lines.specs.Lines.{numbers_line, shown_reply}
use Rattle.lines.proofs.Texts.{then_text, same_text}
use Rattle.published.specs.Printed.{tests_shown, degree_shown}
use Rattle.published.proofs.show_degree.Goals as goal

shows : (n m : ℕ) (rows : List ℕ) (said : Reply) → List ℕ
shows n m rows said = shown_reply (λ xs _. numbers_line (codes "degree") xs ++ tests_shown n m rows) (λ _. []) said rows

pub returns-in_ok-write_line-in-Ok : goal.returns-in_ok-write_line-in-Ok
unfolding degree_shown shows
returns-in_ok-write_line-in-Ok g c =
    same_text _ _ _ _ _ (then_text _ _ _ _ _ _ _ c.in_ok-write_line-in-Ok.ensures refl c.show_tests.ensures)
    (ap (shows c.args.n c.args.m c.args.rows.now) c.in-Ok.ensures)

pub returns-in-Err : goal.returns-in-Err
unfolding degree_shown shows
returns-in-Err g c = subst (Appends _ _) (ap (shows c.args.n c.args.m c.args.rows.now) c.in-Err.ensures) (Appends-nil _)
