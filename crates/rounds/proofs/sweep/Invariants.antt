-- The first of the largest products of the components before c, and the arrays at the component before it.
use Rattle.std.proofs.Common.{◌-◌}
use Rattle.masks.specs.Masks.{PowerAdded}
use Rattle.rounds.specs.Round.{outputs_of}
use Rattle.rounds.specs.Work.{summed, AllStepped}
use Rattle.rounds.proofs.Terms.{Sweeping}
use Rattle.rounds.proofs.sweep.Given as goal

abbrev pub invariant-loop-c : goal.invariant-loop-c
invariant-loop-c l = record {
  so_far : Sweeping (summed l.boxes) l.first l.last (outputs_of (summed l.boxes)) l.i l.found l.c;
  stepped : AllStepped l.boxes l.before l.work;
  raised : PowerAdded l.before l.c;
}

abbrev pub decreases-loop-c : goal.decreases-loop-c
decreases-loop-c l = l.end - l.c
