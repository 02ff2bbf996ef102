-- The first x entries are the output differences.
use Rattle.std.proofs.Common.{◌≡◌, ℕ, ◌<◌, length, get_or}
use Rattle.std.specs.Int.Bits.{bit_xor}
use Rattle.differential.proofs.write_differences.Given as goal

abbrev pub invariant-loop-x : goal.invariant-loop-x
invariant-loop-x l =
    (length l.differences ≡ length l.rows)
    × ((k : ℕ) → k < l.x → get_or l.differences k 0 ≡ bit_xor (get_or l.rows k 0) (get_or l.rows (bit_xor k l.a) 0))
