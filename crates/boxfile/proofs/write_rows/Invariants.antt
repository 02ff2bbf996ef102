use Prim.Native.Nat.{ℕ, ◌<◌}
use mathlib.Core.Path.{◌≡◌}
use Rattle.boolean.specs.Functions.{at}
use Rattle.boxfile.specs.File.{row_at}
use Rattle.boxfile.proofs.write_rows.Given as goal

-- the rows before the index are the file's
abbrev pub invariant-loop-x : goal.invariant-loop-x
invariant-loop-x l = (k : ℕ) → k < l.x → at l.rows k ≡ row_at l.file k
