-- `packing::unpack` meets its contract: what the checks found says which case it is, in the answer and in the array.
use mathlib.Core.Path.{◌≡◌, refl, sym, ◌∙◌}
use lib.ListN.{length}
use Rattle.refusals.specs.Table.{first}
use Rattle.refusals.proofs.Outcomes.{wrote_refused, wrote_accepted}
use Rattle.packing.specs.Packing.{unpack_checks}
use Rattle.packing.proofs.Accepted.{unpack_columns, unpack_room, cleared}
use Rattle.std.specs.Prelude.{Ok}
use Rattle.packing.proofs.unpack.Goals as goal

pub unpack_bytes-requires : goal.unpack_bytes-requires
unpack_bytes-requires c =
    let a = c.args in
    let h = (sym c.in_ok-check_unpack.ensures) in
    (unpack_columns a.n a.m a.packed.now _ h, cleared 1024, refl, unpack_room a.n a.m a.packed.now _ h)
