-- The bytes of a row more.
use Rattle.std.proofs.Common.{arith, ◌≡◌, ◌+◌, ◌*◌, ◌<◌, length}
use Rattle.boolean.specs.Functions.{at}
use Rattle.boolean.specs.Sums.{each}
use Rattle.boolean.proofs.Stored.{stored_none, stored_more}
use Rattle.boxfile.specs.File.{row_bytes}
use Rattle.boxfile.proofs.FileBytes.{bytes_next}
use Rattle.boxfile.proofs.put_rows.Goals as goal

pub loop-x-init : goal.loop-x-init
unfolding each
loop-x-init c = stored_none 2 _

pub loop-x-preserved : goal.loop-x-preserved
unfolding row_bytes
loop-x-preserved c =
    let rows = c.args.rows.now in
    let x = c.loop-x.x in
    let inside : x < length rows = omega arith in
    let next : 2 + 4 * (x + 1) ≡ 2 + 4 * x + 4 = omega arith in
    rw (bytes_next rows x inside) (stored_more c.loop-x.invariant (row_bytes (at rows x)) next c.put_row.ensures)
