-- Enlargement by one input (document 000, Definitions 6 and 7).
use Rattle.std.specs.Prelude.{ℕ, suc, ◌+◌, ◌-◌, ◌*◌, ◌^◌, cond, List, ltb}
use Rattle.std.specs.Int.Bits.{bit_xor}
use Rattle.boolean.specs.Sums.{list_below}
use Rattle.boolean.specs.Functions.{at}

-- a function of n + 1 inputs from f: in the lower half f(x), in the upper half f(x XOR 2^(k−1)) XOR a
unfoldable pub enlarged : (n : ℕ) (f : ℕ → ℕ) (k a x : ℕ) → ℕ
enlarged n f k a x = cond (ltb x (2 ^ n)) (f x) (bit_xor (f (bit_xor (x - 2 ^ n) (2 ^ (k - 1)))) a)

-- one column
unfoldable pub enlarged_table : (n : ℕ) (table : List ℕ) (k a : ℕ) → List ℕ
unfolding list_below enlarged
enlarged_table n table k a = list_below (2 ^ suc n) (λ x. enlarged n (at table) k a x)

-- a whole box: the rows of f by k with constant 0, and a new top bit made from g by k with constant 1
unfoldable pub enlarged_rows : (n : ℕ) (rows table : List ℕ) (k : ℕ) → List ℕ
unfolding list_below enlarged
enlarged_rows n rows table k = list_below (2 ^ suc n) (λ x. enlarged n (at rows) k 0 x + enlarged n (at table) k 1 x * 2 ^ n)
