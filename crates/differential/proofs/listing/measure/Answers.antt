-- A box has at most 256 rows, so there is room for its pairs.
use Rattle.std.proofs.Common.{◌/◌, ◌≤◌, length, replicate, arith}
use Rattle.differential.proofs.Buckets.{zeros_free}
use Rattle.differential.proofs.Sweeps.{half_room}
use Rattle.differential.proofs.listing.measure.Goals as goal

pub measure_rows-requires : goal.measure_rows-requires
measure_rows-requires c =
    let few : length c.args.rows.now / 2 ≤ 128 = omega (arith, c.requires.0.small) in
    (c.requires.0, half_room c.requires.0 (replicate 128 0) few, zeros_free, c.requires.1)
