-- The first x entries are the component's values.
use Rattle.std.proofs.Common.{◌≡◌, ℕ, ◌<◌, length, get_or}
use Rattle.boolean.specs.Bits.{dot}
use Rattle.masks.proofs.write_component.Given as goal

abbrev pub invariant-loop-x : goal.invariant-loop-x
invariant-loop-x l = (length l.table ≡ length l.rows) × ((k : ℕ) → k < l.x → get_or l.table k 0 ≡ dot (get_or l.rows k 0) l.c)
