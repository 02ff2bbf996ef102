use Rattle.rounds.specs.Work.{summed}
use Rattle.rounds.proofs.Slices.{Gathered}
use Rattle.rounds.proofs.witness_at.Given as goal

abbrev pub invariant-loop-k : goal.invariant-loop-k
invariant-loop-k l = Gathered (summed l.boxes) l.c l.k l.masks l.b
