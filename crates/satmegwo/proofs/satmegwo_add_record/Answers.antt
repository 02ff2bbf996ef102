-- `satmegwo::satmegwo_add_record` meets its contract: the array for the index is looked at between the file and the room.
use Rattle.std.specs.Prelude.{Result, ⊤}
use Rattle.refusals.specs.declared.Refusal.{Refusal}
use mathlib.Core.Path.{◌≡◌, sym, ap, ◌∙◌}
use mathlib.Core.List.{[], ◌∷◌}
use borrow.Author.Tests.{eq-eqb, ne_eqb}
use lib.ListN.{length}
use Rattle.refusals.specs.Table.{first, reply_after, after}
use Rattle.catalogue.specs.Calls.{said_told, gap_for, gap_index, offered_checks, add_checks, added}
use Rattle.border.specs.Border.{room_number}
use Rattle.satmegwo.specs.Exports.{add_record_checks}
use Rattle.border.proofs.Giving.{out_refused, out_figures, out_refusal, room_refused, room_passed}
use Rattle.satmegwo.proofs.satmegwo_add_record.Goals as goal

pub returns-then-figures-ne1 : goal.returns-then-figures-ne1
unfolding add_record_checks
returns-then-figures-ne1 c =
    let a = c.args in
    let b = a.catalogue.now in
    let file = a.file.now in
    let t = room_refused (offered_checks b file) _ (ne_eqb _ 1 c.if-figures-ne1.true) in
    let n = c.number_for_room.ensures ∙ ap room_number c.check_offered.ensures ∙ t.number_is in
    record { index = out_refused t.is n; records = out_refused t.is n }

pub returns-in-Ok : goal.returns-in-Ok
unfolding add_record_checks add_checks
returns-in-Ok c =
    let a = c.args in
    let as_called : first (add_record_checks a.catalogue.now a.file.now (length a.figures.now))
    ≡ first (add_checks a.catalogue.now a.file.now) =
    room_passed (offered_checks a.catalogue.now a.file.now) _ (eq-eqb _ 1 c.if-figures-ne1.false) in
    let b = a.catalogue.now in
    let file = a.file.now in
    let index = gap_index (gap_for b file) ∷ [] in
    let as_here = sym as_called in
    let reply = c.add.ensures.reply ∙ ap (λ (k : Result ⊤ Refusal). reply_after k index) as_here in
    let records = c.add.ensures.content ∙ ap (λ (k : Result ⊤ Refusal). after k (added b file) b) as_here in
    let figured = out_figures index c.if-figures-ne1.false (sym (ap said_told c.in-Ok.is) ∙ reply) c.give.ensures in
    record { index = figured; records = record { number = figured.number; content = records } }

pub returns-in-Err : goal.returns-in-Err
unfolding add_record_checks add_checks
returns-in-Err c =
    let a = c.args in
    let as_called : first (add_record_checks a.catalogue.now a.file.now (length a.figures.now))
    ≡ first (add_checks a.catalogue.now a.file.now) =
    room_passed (offered_checks a.catalogue.now a.file.now) _ (eq-eqb _ 1 c.if-figures-ne1.false) in
    let b = a.catalogue.now in
    let file = a.file.now in
    let index = gap_index (gap_for b file) ∷ [] in
    let as_here = sym as_called in
    let reply = c.add.ensures.reply ∙ ap (λ (k : Result ⊤ Refusal). reply_after k index) as_here in
    let records = c.add.ensures.content ∙ ap (λ (k : Result ⊤ Refusal). after k (added b file) b) as_here in
    let figured = out_refusal index (sym (ap said_told c.in-Err.is) ∙ reply) c.number_of.ensures in
    record { index = figured; records = record { number = figured.number; content = records } }
