use Rattle.catalogue.proofs.Packing.{Packing}
use Rattle.catalogue.proofs.pack.Given as goal

abbrev pub invariant-loop-k : goal.invariant-loop-k
invariant-loop-k l = Packing l.initial.b l.n l.to l.k l.b
