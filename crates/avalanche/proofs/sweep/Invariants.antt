use Rattle.std.proofs.Common.{◌≡◌, ◌+◌, ◌-◌, ◌^◌, length}
use Rattle.boolean.specs.Selection.{higher, ranked}
use Rattle.masks.specs.Masks.{outputs}
use Rattle.masks.proofs.Sweeps.{SweepingFrom}
use Rattle.avalanche.specs.Work.{change_candidate}
use Rattle.avalanche.proofs.Sweeps.{start_at, widest_of}
use Rattle.avalanche.proofs.sweep.Given as goal

abbrev pub invariant-loop-c : goal.invariant-loop-c
invariant-loop-c l =
    SweepingFrom l.first (l.last + 1) (ranked higher outputs) (widest_of l.n l.rows l.j) l.n l.m l.rows l.i (start_at l.first)
    (change_candidate l.found) l.table l.work l.before l.c
    × (length l.values ≡ 2 ^ l.n)

abbrev pub decreases-loop-c : goal.decreases-loop-c
decreases-loop-c l = l.end - l.c
