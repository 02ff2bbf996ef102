-- After the rise the running value is the largest count so far with the smallest difference that has it.
use Rattle.std.proofs.Common.{arith}
use Rattle.differential.proofs.Rises.{running_next}
use Rattle.differential.proofs.OwnBuckets.{own_fits, alone_risen, alone_next}
use Rattle.differential.proofs.narrow.rise_alone.Goals as goal

pub overflow_add-standing : goal.overflow_add-standing
overflow_add-standing c = omega (arith, own_fits c.requires.2 c.requires.0)

pub returns : goal.returns
returns c =
    let own = c.requires.2 in
    let risen = alone_risen own c.requires.0 in (
      running_next c.requires.3 (c.type_inv.differences c.args.y).fits (omega (arith, risen)),
      omega (arith, risen),
      alone_next own c.requires.0,
    )
