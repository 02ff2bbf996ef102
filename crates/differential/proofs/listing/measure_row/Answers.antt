-- After each rise it has the running value, and how many differences have its count.
use Rattle.std.proofs.Common.{◌≡◌, ℕ, ◌-◌, ◌*◌, length, subst, arith}
use Rattle.differential.specs.Work.{RunningCells, Buckets}
use Rattle.differential.proofs.Rises.{in_row, in_row_map, out_of_row, row_below}
use Rattle.differential.proofs.LargestCount.{cells_none, row_cells_next}
use Rattle.differential.proofs.Buckets.{buckets_none}
use Rattle.differential.proofs.listing.measure_row.Goals as goal

pub loop-y-init : goal.loop-y-init
loop-y-init c = (in_row 4294967295 (cells_none _), buckets_none _ c.requires.2)

pub rise-after-requires : goal.rise-after-requires
rise-after-requires c =
    (c.requires.0, omega arith, c.requires.1, c.loop-y.invariant.1, in_row_map (λ value t. t.running) c.loop-y.invariant.0)

pub cells_after-cells-requires : goal.cells_after-cells-requires
cells_after-cells-requires c = omega (arith, c.loop-y.invariant.0.holds.few)

pub loop-y-preserved : goal.loop-y-preserved
loop-y-preserved c =
    let e = c.rise-after.ensures in
    (row_cells_next c.loop-y.invariant.0 (omega arith) (c.type_inv.differences c.loop-y.y).fits e.2 c.cells_after-cells.ensures e.0 e.1, e.3)

pub overflow_sub-result : goal.overflow_sub-result
overflow_sub-result c = row_below c.loop-y.invariant.0

pub returns : goal.returns
returns c =
    let args = c.args in
    let values = args.differences.now in
    let all : c.loop-y.y ≡ length values = omega arith in (
      subst (λ (k : ℕ). RunningCells values k (c.loop-y.running - args.a * 1099511627776) c.loop-y.cells) all (out_of_row c.loop-y.invariant.0),
      subst (λ (k : ℕ). Buckets args.a values k c.loop-y.buckets) all c.loop-y.invariant.1,
    )
