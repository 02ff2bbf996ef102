-- Half of the inputs are pairs, and each of the 2^m differences has a bucket.
use Rattle.std.proofs.Common.{◌/◌, ◌≤◌, length, replicate, ◌∙◌, arith}
use lib.Pow.{pow_mono}
use lib.Seq.{length-take-le}
use Rattle.differential.proofs.Sweeps.{half_room}
use Rattle.differential.proofs.narrow.find_narrow.Goals as goal

pub sweep_narrow-requires : goal.sweep_narrow-requires
sweep_narrow-requires c =
    let few : length c.args.rows.now / 2 ≤ length c.args.pairs.now = omega (arith, c.requires.0.small, c.requires.2) in
    let size : c.power_of_two-size.result ≤ 256 = omega (arith, c.power_of_two-size.ensures.0, pow_mono c.requires.1) in (
      c.requires.0,
      c.requires.1,
      half_room c.requires.0 c.args.pairs.now few,
      length-take-le _ (replicate 256 0) size ∙ c.power_of_two-size.ensures.0,
    )
