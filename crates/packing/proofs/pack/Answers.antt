-- `packing::pack` meets its contract: what the checks found says which case it is, in the answer and in the array.
use mathlib.Core.Path.{◌≡◌, refl, sym, ◌∙◌}
use lib.ListN.{length}
use Rattle.refusals.specs.Table.{first}
use Rattle.refusals.proofs.Outcomes.{wrote_refused, wrote_accepted}
use Rattle.packing.specs.Packing.{pack_checks}
use Rattle.packing.proofs.Accepted.{pack_box, pack_room, cleared}
use Rattle.std.specs.Prelude.{Ok}
use Rattle.packing.proofs.pack.Goals as goal

pub pack_rows-requires : goal.pack_rows-requires
pack_rows-requires c =
    let a = c.args in
    let h = (sym c.in_ok-check_pack.ensures) in
    (pack_box a.n a.m a.rows.now _ h, cleared 256, refl, pack_room a.n a.m a.rows.now _ h)
