use Prim.Native.Nat.{◌+◌, ◌*◌}
use lib.ListN.{take}
use Rattle.boolean.specs.Sums.{each}
use Rattle.boolean.proofs.Stored.{Stored}
use Rattle.boxfile.specs.File.{row_bytes}
use Rattle.boxfile.proofs.put_rows.Given as goal

-- the bytes of the rows before the index stand in the file
abbrev pub invariant-loop-x : goal.invariant-loop-x
invariant-loop-x l = Stored 2 l.initial.file (each (take l.x l.rows) row_bytes) (2 + 4 * l.x) l.file
