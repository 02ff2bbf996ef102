-- Half of the inputs are pairs, and buckets of 0 are free for all rows.
use Rattle.std.proofs.Common.{arith}
use Rattle.differential.proofs.Buckets.{zeros_free}
use Rattle.differential.proofs.Sweeps.{half_room}
use Rattle.differential.proofs.find_wide.Goals as goal

pub sweep_cells-requires : goal.sweep_cells-requires
sweep_cells-requires c = (c.requires.0, half_room c.requires.0 c.args.pairs.now (omega (arith, c.requires.0.small)), zeros_free)
