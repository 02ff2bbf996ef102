-- A mask with too many ones is below 2^32, and the next one is above it.
use Rattle.std.proofs.Common.{le_refl, arith}
use Rattle.masks.proofs.FirstMask.{search_below, search_next}
use Rattle.masks.proofs.first_mask.Goals as goal

pub next_mask-r-requires : goal.next_mask-r-requires
next_mask-r-requires c = (omega arith, search_below c.loop-r.invariant c.loop-r-test.true, le_refl _)

pub loop-r-smaller : goal.loop-r-smaller
loop-r-smaller c = omega (arith, c.next_mask-r.ensures.0.above, search_below c.loop-r.invariant c.loop-r-test.true)

pub loop-r-preserved : goal.loop-r-preserved
loop-r-preserved c = search_next c.loop-r.invariant c.loop-r-test.true c.next_mask-r.ensures.0
