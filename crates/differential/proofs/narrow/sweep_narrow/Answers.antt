-- Each row's largest cell takes the place of the best so far where it counts more.
use Rattle.std.proofs.Common.{◌^◌, ◌≤◌, refl, ◌∙◌, arith}
use lib.Pow.{pow_pos, pow_mono}
use Rattle.differential.specs.Work.{cell_found}
use Rattle.differential.proofs.Sweeps.{box_inside, pairs_few, sweep_starts, sweep_next, sweep_ends, sweep_last}
use Rattle.differential.proofs.Rises.{largest_few, row_after}
use Rattle.differential.proofs.Pairs.{pair_small}
use Rattle.differential.proofs.narrow.sweep_narrow.Goals as goal

pub power_of_two-inputs-requires : goal.power_of_two-inputs-requires
power_of_two-inputs-requires c = omega (arith, c.requires.0.n_high)

pub loop-a-init : goal.loop-a-init
loop-a-init c = (sweep_starts c.requires.0 c.requires.2, c.requires.3)

pub write_pairs-requires : goal.write_pairs-requires
write_pairs-requires c = let sweep = c.loop-a.invariant.0 in (box_inside sweep.box (omega arith), sweep.a_low, sweep.room)

pub largest_alone-best-requires : goal.largest_alone-best-requires
largest_alone-best-requires c =
    let sweep = c.loop-a.invariant.0 in (
      pairs_few sweep.box c.write_pairs.ensures,
      omega (arith, pow_pos c.args.m),
      omega (arith, pow_mono c.requires.1),
      λ y l. omega (arith, pair_small sweep.box c.write_pairs.ensures y l),
    )

-- the row's largest count is that of some of its pairs
pub after_row-found-requires : goal.after_row-found-requires
after_row-found-requires c =
    let sweep = c.loop-a.invariant.0 in
    omega (arith, largest_few c.largest_alone-best.ensures.0, pairs_few sweep.box c.write_pairs.ensures)

pub loop-a-preserved : goal.loop-a-preserved
loop-a-preserved c =
    let sweep = c.loop-a.invariant.0 in (
      sweep_next sweep (omega arith) c.write_pairs.ensures
          (rw c.after_row-found.ensures (row_after c.largest_alone-best.ensures.0 c.loop-a.a (cell_found c.loop-a.found))),
      c.largest_alone-best.ensures.2.long ∙ c.loop-a.invariant.1,
    )

pub returns : goal.returns
returns c =
    let sweep = c.loop-a.invariant.0 in
    let end : 2 ^ c.args.n ≤ c.loop-a.a = omega arith in
    (sweep_ends sweep end refl, sweep_last sweep end, omega arith)
