-- The array for n and m is looked at first, since reading is refused by 7 alone.
use Rattle.std.specs.Prelude.{Result, ⊤}
use mathlib.Core.Path.{◌≡◌, sym, ap, ◌∙◌}
use mathlib.Core.List.{[], ◌∷◌, append-nil}
use Prim.Native.Nat.{ℕ}
use borrow.Author.Tests.{eq-eqb, ne_eqb}
use lib.ListN.{length}
use Rattle.refusals.specs.declared.Refusal.{Refusal}
use Rattle.refusals.specs.Table.{first, figures, refusal, number, reply_after, after}
use Rattle.refusals.proofs.Checks.{reply_refused, after_refused}
use Rattle.design.specs.declared.Design.{Design}
use Rattle.design.specs.Model.{design_read_checks}
use Rattle.design.specs.Calls.{state_of_design, design_rows, said_box_held}
use Rattle.border.proofs.Giving.{figures_told, refusal_told, room_refused, room_passed}
use Rattle.satmegwo_design.specs.Exports.{read_design_checks}
use Rattle.satmegwo_design.proofs.Numbers.{only_seven}
use Rattle.satmegwo_design.proofs.satmegwo_design_read.Goals as goal

-- with two elements lent for the figures, the checks are those of the call
as_called : (d : Design) (rows : ℕ) (figured : ℕ) → figured ≡ 2 →
    first (design_read_checks (state_of_design d) rows) ≡ first (read_design_checks (state_of_design d) rows figured)
unfolding read_design_checks
as_called d rows figured two =
    sym (room_passed (design_read_checks (state_of_design d) rows) [] (eq-eqb figured 2 two) ∙ ap first (append-nil _))

pub returns-then-figures-ne2 : goal.returns-then-figures-ne2
unfolding read_design_checks
returns-then-figures-ne2 c =
    let a = c.args in
    let s = state_of_design a.design in
    let widths = a.design.n ∷ a.design.m ∷ [] in
    let found = first (read_design_checks s (length a.rows.now) (length a.figures.now)) in
    let t = room_refused (design_read_checks s (length a.rows.now)) [] (ne_eqb _ 2 c.if-figures-ne2.true) in
    let told = refusal_told found widths a.figures.now (reply_refused t.is widths) in
    record {
      number = c.number_of.ensures ∙ only_seven s (length a.rows.now) ∙ t.number_is ∙ told.0;
      widths = told.1;
      box = after_refused t.is _ _;
    }

pub returns-in-Ok : goal.returns-in-Ok
returns-in-Ok c =
    let a = c.args in
    let widths = a.design.n ∷ a.design.m ∷ [] in
    let found = first (read_design_checks (state_of_design a.design) (length a.rows.now) (length a.figures.now)) in
    let same = as_called a.design (length a.rows.now) (length a.figures.now) c.if-figures-ne2.false in
    let read = c.in-Ok.field-0.n ∷ c.in-Ok.field-0.m ∷ [] in
    let reply : figures read ≡ reply_after found widths =
    sym (ap said_box_held c.in-Ok.is) ∙ c.read_box.ensures.reply ∙ ap (λ (k : Result ⊤ Refusal). reply_after k widths) same
    in
    let told = figures_told found widths read a.figures.now c.if-figures-ne2.false reply c.give.ensures in
    record {
      number = told.0;
      widths = told.1;
      box = c.read_box.ensures.content ∙ ap (λ (k : Result ⊤ Refusal). after k (design_rows a.design) a.rows.now) same;
    }

pub returns-in-Err : goal.returns-in-Err
returns-in-Err c =
    let a = c.args in
    let widths = a.design.n ∷ a.design.m ∷ [] in
    let found = first (read_design_checks (state_of_design a.design) (length a.rows.now) (length a.figures.now)) in
    let same = as_called a.design (length a.rows.now) (length a.figures.now) c.if-figures-ne2.false in
    let reply : refusal (number c.in-Err.e) ≡ reply_after found widths =
    sym (ap said_box_held c.in-Err.is) ∙ c.read_box.ensures.reply ∙ ap (λ (k : Result ⊤ Refusal). reply_after k widths) same
    in
    let told = refusal_told found widths a.figures.now reply in
    record {
      number = c.number_of-in-Err.ensures ∙ told.0;
      widths = told.1;
      box = c.read_box.ensures.content ∙ ap (λ (k : Result ⊤ Refusal). after k (design_rows a.design) a.rows.now) same;
    }
