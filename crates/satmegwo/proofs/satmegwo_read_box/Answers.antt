-- `satmegwo::satmegwo_read_box` meets its contract: the array for the figures is looked at after that for the rows.
use Rattle.std.specs.Prelude.{Result, ⊤}
use Rattle.refusals.specs.declared.Refusal.{Refusal}
use mathlib.Core.Path.{◌≡◌, sym, ap, ◌∙◌}
use mathlib.Core.List.{[], ◌∷◌, append-nil}
use borrow.Author.Tests.{eq-eqb, ne_eqb}
use lib.ListN.{length}
use Rattle.boolean.specs.Functions.{at}
use Rattle.refusals.specs.Table.{first, reply_after, after}
use Rattle.boxfile.specs.File.{file_rows, file_checks, said_box_file}
use Rattle.border.specs.Border.{room_number}
use Rattle.satmegwo.specs.Exports.{read_box_checks}
use Rattle.border.proofs.Giving.{out_refused, out_figures, out_refusal, room_refused, room_passed}
use Rattle.satmegwo.proofs.satmegwo_read_box.Goals as goal

pub returns-then-figures-ne2 : goal.returns-then-figures-ne2
unfolding read_box_checks
returns-then-figures-ne2 c =
    let a = c.args in
    let file = a.file.now in
    let t = room_refused (file_checks file (length a.rows.now)) [] (ne_eqb _ 2 c.if-figures-ne2.true) in
    let n = c.number_for_room.ensures ∙ ap room_number c.check_file.ensures ∙ t.number_is in
    record { widths = out_refused t.is n; rows = out_refused t.is n }

pub returns-in-Ok : goal.returns-in-Ok
unfolding read_box_checks
returns-in-Ok c =
    let a = c.args in
    let as_called : first (read_box_checks a.file.now (length a.rows.now) (length a.figures.now))
    ≡ first (file_checks a.file.now (length a.rows.now)) =
    room_passed (file_checks a.file.now (length a.rows.now)) [] (eq-eqb _ 2 c.if-figures-ne2.false) ∙ ap first (append-nil _) in
    let file = a.file.now in
    let widths = at file 0 ∷ at file 1 ∷ [] in
    let as_here = sym as_called in
    let reply = c.read_box.ensures.reply ∙ ap (λ (k : Result ⊤ Refusal). reply_after k widths) as_here in
    let rows = c.read_box.ensures.content ∙ ap (λ (k : Result ⊤ Refusal). after k (file_rows file (at file 0)) a.rows.now) as_here in
    let figured = out_figures widths c.if-figures-ne2.false (sym (ap said_box_file c.in-Ok.is) ∙ reply) c.give.ensures in
    record { widths = figured; rows = record { number = figured.number; content = rows } }

pub returns-in-Err : goal.returns-in-Err
unfolding read_box_checks
returns-in-Err c =
    let a = c.args in
    let as_called : first (read_box_checks a.file.now (length a.rows.now) (length a.figures.now))
    ≡ first (file_checks a.file.now (length a.rows.now)) =
    room_passed (file_checks a.file.now (length a.rows.now)) [] (eq-eqb _ 2 c.if-figures-ne2.false) ∙ ap first (append-nil _) in
    let file = a.file.now in
    let widths = at file 0 ∷ at file 1 ∷ [] in
    let as_here = sym as_called in
    let reply = c.read_box.ensures.reply ∙ ap (λ (k : Result ⊤ Refusal). reply_after k widths) as_here in
    let rows = c.read_box.ensures.content ∙ ap (λ (k : Result ⊤ Refusal). after k (file_rows file (at file 0)) a.rows.now) as_here in
    let figured = out_refusal widths (sym (ap said_box_file c.in-Err.is) ∙ reply) c.number_of.ensures in
    record { widths = figured; rows = record { number = figured.number; content = rows } }
