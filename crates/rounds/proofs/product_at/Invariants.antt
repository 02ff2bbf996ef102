-- The product so far makes the whole with that of the rest, and the boxes below one have their arrays at component c, the rest at the one before it.
use Rattle.std.proofs.Common.{◌≡◌, ℕ, ◌*◌, ◌^◌, ◌<◌, ◌≤◌, length, drop, get_or}
use Rattle.rounds.specs.Spectra.{product}
use Rattle.rounds.specs.Work.{summed, WorkStepped}
use Rattle.rounds.specs.declared.Summand.{Summand}
use Rattle.rounds.specs.declared.Work.{Work}
use Rattle.rounds.proofs.product_at.Given as goal

abbrev pub invariant-loop-k : goal.invariant-loop-k
invariant-loop-k l = record {
  whole : l.size * product (drop l.k (summed l.boxes)) l.c ≡ product (summed l.boxes) l.c;
  room : length l.work ≡ 4;
  small : l.size ≤ 2 ^ (8 * l.k);
  done : (j : ℕ) (t : Summand) (w : Work) → j < l.k → WorkStepped (get_or l.boxes j t) l.c (get_or l.work j w);
  rest : (j : ℕ) (t : Summand) (w : Work) → l.k ≤ j → j < length l.boxes → WorkStepped (get_or l.boxes j t) l.last (get_or l.work j w);
}
