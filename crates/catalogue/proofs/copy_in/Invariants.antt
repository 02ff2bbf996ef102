-- So many bytes of the file stand in the buffer.
use Rattle.catalogue.proofs.Moves.{Storing}
use Rattle.catalogue.proofs.copy_in.Given as goal

abbrev pub invariant-loop-i : goal.invariant-loop-i
invariant-loop-i l = Storing l.initial.b l.start l.file l.i l.b
