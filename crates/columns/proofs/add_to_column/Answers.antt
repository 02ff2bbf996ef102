-- `columns::add_to_column` meets its contract: what accepted checks say of the arguments.
use mathlib.Core.Path.{sym}
use lib.ListN.{length}
use Rattle.columns.proofs.Accepted.{accepts}
use Rattle.columns.proofs.add_to_column.Goals as goal

pub add_rows-requires : goal.add_rows-requires
add_rows-requires c =
    let a = c.args in
    let r = accepts a.n a.m a.rows.now a.j a.w a.b (length a.out.now) (sym c.in_ok-check_addition.ensures) in
    (r.j_low, r.j_fits, r.b_bit, r.sound.small, r.room_same)
