-- What is written so far are the records before the index.
use Rattle.boolean.specs.Sums.{each, list_below}
use Rattle.std.specs.Io.KnownBytes.{Appends}
use Rattle.fetched.specs.Printed.{record_shown}
use Rattle.fetched.proofs.show_records.Given as goal

abbrev pub invariant-loop-index : goal.invariant-loop-index
invariant-loop-index g l =
    Appends (g.W.Write.contents l.fn.out) (g.W.Write.contents l.out) (each (list_below l.index (λ k. k)) (λ k. record_shown l.fn.catalogue k))
