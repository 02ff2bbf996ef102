-- The entries below the index stand in the table.
use Rattle.std.proofs.Common.{◌≡◌, ℕ, ◌<◌, length}
use Rattle.boolean.specs.Bits.{affine}
use Rattle.boolean.specs.Functions.{at, component}
use Rattle.swaps.specs.Work.{entry_of}
use Rattle.swaps.proofs.write_table.Given as goal

abbrev pub invariant-loop-x : goal.invariant-loop-x
invariant-loop-x l =
    (length l.table ≡ 256)
    × ((x : ℕ) → x < l.x → at l.table x ≡ entry_of (component l.rows l.pair.c x) (affine l.pair.w l.pair.b x))
