use Rattle.catalogue.proofs.GapSearch.{Searching}
use Rattle.catalogue.proofs.find_gap.Given as goal

abbrev pub invariant-loop-index : goal.invariant-loop-index
invariant-loop-index l = Searching l.b l.n l.need l.start l.index
