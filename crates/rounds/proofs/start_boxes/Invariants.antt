-- The boxes below one have their arrays at component c.
use Rattle.std.proofs.Common.{◌≡◌, ℕ, ◌<◌, length, get_or}
use Rattle.rounds.specs.Work.{WorkStepped}
use Rattle.rounds.specs.declared.Summand.{Summand}
use Rattle.rounds.specs.declared.Work.{Work}
use Rattle.rounds.proofs.start_boxes.Given as goal

abbrev pub invariant-loop-k : goal.invariant-loop-k
invariant-loop-k l = record {
  room : length l.work ≡ 4;
  done : (j : ℕ) (t : Summand) (w : Work) → j < l.k → WorkStepped (get_or l.boxes j t) l.c (get_or l.work j w);
}
