-- The first i values are those of the step tables.
use Rattle.std.proofs.Common.{◌≡◌, ℕ, ◌*◌, ◌-◌, ◌^◌, ◌/◌, ◌%◌, ◌<◌, length, get_or}
use Rattle.boolean.specs.Bits.{dot}
use Rattle.masks.proofs.write_steps.Given as goal

abbrev pub invariant-loop-i : goal.invariant-loop-i
invariant-loop-i l =
    (length l.steps ≡ l.m * length l.rows)
    × ((k : ℕ) → k < l.i → get_or l.steps k 0 ≡ dot (get_or l.rows (k % length l.rows) 0) (2 * 2 ^ (k / length l.rows) - 1))
