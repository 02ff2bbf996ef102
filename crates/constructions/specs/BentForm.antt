-- The Maiorana-McFarland form of a bent function of n = 2h inputs.
use Rattle.std.specs.Prelude.{ℕ, ◌/◌, ◌%◌, ◌^◌, Bool, ◌&&◌, List, eqb}
use Rattle.std.specs.Int.Bits.{bit_xor}
use Rattle.boolean.specs.Bits.{dot}
use Rattle.boolean.specs.Sums.{list_below, distinct}
use Rattle.boolean.specs.Functions.{at}
use Rattle.refusals.specs.Table.{all_below}

-- input x × 2^h + y gives π(x)·y XOR g(x)
unfoldable pub bent_form : (h : ℕ) (permutation table : List ℕ) (z : ℕ) → ℕ
unfolding dot
bent_form h permutation table z = bit_xor (dot (at permutation (z / 2 ^ h)) (z % 2 ^ h)) (at table (z / 2 ^ h))

unfoldable pub bent_table : (n : ℕ) (permutation table : List ℕ) → List ℕ
unfolding list_below bent_form
bent_table n permutation table = list_below (2 ^ n) (λ z. bent_form (n / 2) permutation table z)

-- a permutation of 0 to size − 1, of a list that is as long: every entry is in range, and no two are equal
unfoldable pub is_permutation : (size : ℕ) (permutation : List ℕ) → Bool
unfolding distinct
is_permutation size permutation = all_below size permutation && distinct eqb permutation
