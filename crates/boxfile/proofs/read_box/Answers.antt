-- `boxfile::read_box` meets its contract: what the checks found says which case it is, in the reply and in the array.
use mathlib.Core.Path.{◌≡◌, sym, ap, ap₂, ◌∙◌, subst}
use mathlib.Core.List.{[], ◌∷◌}
use Prim.Native.Nat.{ℕ, ◌+◌, ◌*◌, ◌^◌}
use native.Mathlib.Omega.{arith}
use lib.ListN.{length}
use Rattle.refusals.specs.Table.{first, figures}
use Rattle.refusals.proofs.Checks.{reply_refused, reply_accepted, after_refused, after_accepted}
use Rattle.boxfile.specs.File.{file_rows, file_checks}
use Rattle.boxfile.proofs.FileRows.{Whole, whole}
use Rattle.std.specs.Prelude.{Ok}
use Rattle.boxfile.proofs.read_box.Goals as goal

pub bounds-file-0 : goal.bounds-file-0
bounds-file-0 c = omega (arith, ((let a = c.args in whole a.file.now (length a.rows.now) ((sym c.in_ok-check_file.ensures)))).two)

pub write_rows-requires : goal.write_rows-requires
write_rows-requires c =
    let a = c.args in
    subst (λ (n : ℕ). (length a.rows.now ≡ 2 ^ n) × (length a.file.now ≡ 2 + 4 * 2 ^ n)) (sym c.wide-n.ensures.0) (((let a = c.args in whole a.file.now (length a.rows.now) ((sym c.in_ok-check_file.ensures)))).room_is, ((let a = c.args in whole a.file.now (length a.rows.now) ((sym c.in_ok-check_file.ensures)))).size)

pub bounds-file-1 : goal.bounds-file-1
bounds-file-1 c = omega (arith, ((let a = c.args in whole a.file.now (length a.rows.now) ((sym c.in_ok-check_file.ensures)))).two)
