-- So many of the bytes stand before the gap, and the others behind it.
use Prim.Native.Nat.{◌+◌}
use lib.ListN.{take, drop}
use Rattle.catalogue.specs.Format.{part}
use Rattle.catalogue.proofs.Moves.{Sliding}
use Rattle.catalogue.proofs.slide_down.Given as goal

abbrev pub invariant-loop-i : goal.invariant-loop-i
invariant-loop-i l =
    let b = l.initial.b in
    Sliding (take l.to b) (part (l.to + l.gap) l.size b) (drop (l.to + l.gap + l.size) b) l.gap l.i l.b
