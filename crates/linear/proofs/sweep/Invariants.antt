use Prim.Native.Nat.{◌+◌, ◌-◌, ◌^◌}
use mathlib.Core.Path.{◌≡◌}
use lib.ListN.{length}
use Rattle.masks.proofs.Sweeps.{SweepingFrom}
use Rattle.masks.specs.Masks.{outputs}
use Rattle.linear.specs.Calls.{pair_candidate}
use Rattle.linear.proofs.Nearest.{nearest_of}
use Rattle.boolean.specs.Selection.{lower, ranked}
use Rattle.linear.proofs.sweep.Given as goal

abbrev pub invariant-loop-c : goal.invariant-loop-c
invariant-loop-c l =
    SweepingFrom l.first (l.last + 1) (ranked lower outputs) (nearest_of l.n l.rows) l.n l.m l.rows l.i (pair_candidate l.initial.found) (pair_candidate l.found) l.table l.work l.before l.c
    × (length l.values ≡ 2 ^ l.n)

abbrev pub decreases-loop-c : goal.decreases-loop-c
decreases-loop-c l = l.end - l.c
