-- What is gathered so far.
use Rattle.swaps.specs.Work.{PairsGathered}
use Rattle.swaps.proofs.gather_pairs.Given as goal

abbrev pub invariant-loop-mask : goal.invariant-loop-mask
invariant-loop-mask l = PairsGathered l.n l.m l.rows l.present.count l.pairs
