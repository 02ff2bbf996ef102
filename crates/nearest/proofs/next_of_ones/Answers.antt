use Rattle.std.proofs.Common.{arith}
use Rattle.nearest.proofs.SameOnes.{lowest, lowest_low, lost_sub, lost_shifted, lost_power, next_is}
use Rattle.nearest.proofs.next_of_ones.Goals as goal

pub overflow_sub-lost : goal.overflow_sub-lost
overflow_sub-lost c =
    let a = c.args.c in
    lost_sub a c.requires.0 c.requires.1 (lowest a c.requires.0 c.requires.1)

pub overflow_add-result : goal.overflow_add-result
overflow_add-result c =
    let a = c.args.c in
    omega (
      arith,
      lowest a c.requires.0 c.requires.1,
      lowest_low a c.requires.0 c.requires.1,
      lost_shifted a c.requires.0 c.requires.1 (lowest a c.requires.0 c.requires.1),
      lost_power a c.requires.0 c.requires.1 (lowest a c.requires.0 c.requires.1),
    )

pub returns : goal.returns
returns c =
    let a = c.args.c in
    next_is a c.requires.0 c.requires.1 (lowest a c.requires.0 c.requires.1) (lost_shifted a c.requires.0 c.requires.1 (lowest a c.requires.0 c.requires.1))
