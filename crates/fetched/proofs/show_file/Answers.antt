-- The rows that are shown are those that the call left.
use Rattle.std.specs.Prelude.{Ok, Err}
use Rattle.std.proofs.Common.{List, ℕ, [], ◌∷◌, ap, ◌∙◌, subst, OnOk, length-take-le}
use Rattle.std.specs.Io.KnownBytes.{Appends}
use Rattle.boolean.proofs.Lists.{part_is}
use Rattle.fetched.specs.Printed.{box_line}
use Rattle.fetched.proofs.Printed.{file_is}
use Rattle.fetched.proofs.show_file.Goals as goal

pub returns-in-Ok : goal.returns-in-Ok
returns-in-Ok g c =
    let lent = length-take-le c.room_of-size.result _ c.room_of-size.ensures.1 in
    let rows = part_is c.read_box.new.rows _ c.room_of-size.result (c.read_box.auto.rows ∙ lent) in
    subst (λ (t : List ℕ). OnOk c.show_box.result (Appends (g.W.Write.contents c.args.out.now) (g.W.Write.contents c.show_box.new.out) t))
    (ap (box_line (c.in-Ok.field-0.n ∷ c.in-Ok.field-0.m ∷ [])) rows
    ∙ file_is c.args.file.now _ c.read_box.new.rows (Ok c.in-Ok.field-0) (lent ∙ c.room_of-size.ensures.0) c.in-Ok.ensures)
    c.show_box.ensures

pub returns-in-Err : goal.returns-in-Err
returns-in-Err g c =
    let lent = length-take-le c.room_of-size.result _ c.room_of-size.ensures.1 in
    subst (λ (t : List ℕ). OnOk c.write_refused.result (Appends (g.W.Write.contents c.args.out.now) (g.W.Write.contents c.write_refused.new.out) t))
    (file_is c.args.file.now _ c.read_box.new.rows (Err c.in-Err.e) (lent ∙ c.room_of-size.ensures.0) c.in-Err.ensures)
    c.write_refused.ensures
