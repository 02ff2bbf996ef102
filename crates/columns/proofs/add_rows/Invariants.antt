-- The first x entries of the array are the new rows.
use Rattle.std.proofs.Common.{◌≡◌, ℕ, ◌<◌, length, get_or}
use Rattle.columns.specs.Addition.{added_row}
use Rattle.columns.proofs.add_rows.Given as goal

abbrev pub invariant-loop-x : goal.invariant-loop-x
invariant-loop-x l =
    (length l.out ≡ length l.rows) × ((k : ℕ) → k < l.x → get_or l.out k 0 ≡ added_row l.j l.w l.b k (get_or l.rows k 0))
