-- The rows before a were measured, and their largest count is known.
use Rattle.std.proofs.Common.{◌^◌, ◌≤◌, arith}
use Rattle.differential.proofs.Sweeps.{box_inside, pairs_few}
use Rattle.differential.proofs.Buckets.{buckets_free}
use Rattle.differential.proofs.Measures.{measuring_none, measuring_next, measuring_all, measuring_largest, measuring_last}
use Rattle.differential.proofs.listing.measure_rows.Goals as goal

pub loop-a-init : goal.loop-a-init
loop-a-init c = (measuring_none c.requires.0 c.requires.1 c.requires.3, c.requires.2)

pub write_pairs-requires : goal.write_pairs-requires
write_pairs-requires c = let sweep = c.loop-a.invariant.0 in (box_inside sweep.box (omega (arith, sweep.box.size)), sweep.a_low, sweep.room)

pub measure_row-row-requires : goal.measure_row-row-requires
measure_row-row-requires c =
    let sweep = c.loop-a.invariant.0 in
    (omega (arith, sweep.box.small), pairs_few sweep.box c.write_pairs.ensures, c.loop-a.invariant.1)

pub loop-a-preserved : goal.loop-a-preserved
loop-a-preserved c =
    let sweep = c.loop-a.invariant.0 in (
      measuring_next sweep (omega (arith, sweep.box.size)) c.write_pairs.ensures c.measure_row-row.ensures.0 c.max-largest.ensures,
      buckets_free c.measure_row-row.ensures.1 (pairs_few sweep.box c.write_pairs.ensures),
    )

pub returns : goal.returns
returns c =
    let sweep = c.loop-a.invariant.0 in
    let end : 2 ^ c.args.n ≤ c.loop-a.a = omega (arith, sweep.box.size) in
    (measuring_all sweep end, measuring_largest sweep end, measuring_last sweep end, omega arith)
