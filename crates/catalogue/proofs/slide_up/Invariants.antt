-- All but so many of the bytes stand before the gap, and these behind it.
use Prim.Native.Nat.{◌+◌, ◌-◌}
use lib.ListN.{take, drop}
use Rattle.catalogue.specs.Format.{part}
use Rattle.catalogue.proofs.Moves.{Sliding}
use Rattle.catalogue.proofs.slide_up.Given as goal

abbrev pub invariant-loop-moved : goal.invariant-loop-moved
invariant-loop-moved l =
    let b = l.initial.b in
    Sliding (take l.from b) (part l.from l.size b) (drop (l.from + l.size + l.gap) b) l.gap (l.size - l.moved) l.b
