-- `boxfile::write_box` meets its contract: what the checks found says which case it is, in the answer and in the array.
use mathlib.Core.Path.{◌≡◌, sym, ap, ◌∙◌}
use Prim.Native.Nat.{ℕ, ◌+◌, ◌*◌, ◌^◌}
use native.Mathlib.Omega.{arith}
use borrow.Author.Tests.{eqb-true}
use lib.ListN.{length, length-set}
use Rattle.refusals.specs.Table.{first, box_checks, Box}
use Rattle.refusals.proofs.Outcomes.{wrote_refused, wrote_accepted}
use Rattle.boxfile.specs.File.{file_of, write_checks}
use Rattle.boxfile.proofs.FileBytes.{length_file, written_over}
use Rattle.boxfile.proofs.Written.{box_written, room_written}
use Rattle.std.specs.Prelude.{Ok}
use Rattle.boxfile.proofs.write_box.Goals as goal

pub overflow_cast-file : goal.overflow_cast-file
overflow_cast-file c = omega (arith, ((let a = c.args in box_written a.n a.m a.rows.now (length a.file.now) ((sym c.in_ok-check_write.ensures)))).n_high)

pub bounds-file-0 : goal.bounds-file-0
bounds-file-0 c = omega (arith, (let a = c.args in room_written a.n a.m a.rows.now (length a.file.now) ((sym c.in_ok-check_write.ensures)) ∙ ap (λ (k : ℕ). 2 + 4 * k) (sym ((let a = c.args in box_written a.n a.m a.rows.now (length a.file.now) ((sym c.in_ok-check_write.ensures)))).size)))

pub overflow_cast-file-2 : goal.overflow_cast-file-2
overflow_cast-file-2 c = omega (arith, ((let a = c.args in box_written a.n a.m a.rows.now (length a.file.now) ((sym c.in_ok-check_write.ensures)))).m_high)

pub bounds-file-1 : goal.bounds-file-1
bounds-file-1 c = simp length-set (omega (arith, (let a = c.args in room_written a.n a.m a.rows.now (length a.file.now) ((sym c.in_ok-check_write.ensures)) ∙ ap (λ (k : ℕ). 2 + 4 * k) (sym ((let a = c.args in box_written a.n a.m a.rows.now (length a.file.now) ((sym c.in_ok-check_write.ensures)))).size))))

pub put_rows-requires : goal.put_rows-requires
put_rows-requires c = simp length-set ((let a = c.args in room_written a.n a.m a.rows.now (length a.file.now) ((sym c.in_ok-check_write.ensures)) ∙ ap (λ (k : ℕ). 2 + 4 * k) (sym ((let a = c.args in box_written a.n a.m a.rows.now (length a.file.now) ((sym c.in_ok-check_write.ensures)))).size)))

pub returns : goal.returns
unfolding file_of
returns c =
    let a = c.args in
    let file = file_of a.n a.m a.rows.now in
    wrote_accepted ((sym c.in_ok-check_write.ensures)) (c.put_rows.ensures ∙ written_over a.file.now file ((let a = c.args in room_written a.n a.m a.rows.now (length a.file.now) ((sym c.in_ok-check_write.ensures)) ∙ ap (λ (k : ℕ). 2 + 4 * k) (sym ((let a = c.args in box_written a.n a.m a.rows.now (length a.file.now) ((sym c.in_ok-check_write.ensures)))).size)) ∙ sym (length_file a.n a.m a.rows.now)))
