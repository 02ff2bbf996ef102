-- The first y entries are the output differences of the inputs without the highest bit of a.
use Rattle.std.proofs.Common.{◌≡◌, ℕ, ◌*◌, ◌-◌, ◌<◌, get_or}
use Rattle.std.specs.Int.Bits.{bit_and, bit_xor}
use Rattle.differential.proofs.write_pairs.Given as goal

abbrev pub invariant-loop-y : goal.invariant-loop-y
invariant-loop-y l =
    (k : ℕ) → k < l.y → let x = 2 * k - bit_and k (l.top - 1) in
    get_or l.pairs k 0 ≡ bit_xor (get_or l.rows x 0) (get_or l.rows (bit_xor x l.a) 0)
