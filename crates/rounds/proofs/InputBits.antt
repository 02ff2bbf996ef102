-- Box 1 of a sum takes the lowest input bits, and the others those above them. No figure shows it, since another order of the inputs makes
-- the same counts. Assumes nothing.
use Prim.Native.Nat.{ℕ, ◌+◌, ◌*◌, ◌^◌, ◌<◌}
use mathlib.Core.Path.{◌≡◌, ap, ap₂, ◌∙◌}
use mathlib.Core.List.{List, ◌∷◌}
use native.Mathlib.Nat.{add_comm, mul_comm}
use lib.Bits.{bit_xor}
use lib.Pow.{high, low}
use Rattle.boolean.specs.Functions.{at}
use Rattle.rounds.specs.Round.{Summand, sum_at}

pub box_one_lowest : (s : Summand) (ss : List Summand) (x y : ℕ) → x < 2 ^ s.inputs
    → sum_at (s ∷ ss) (x + 2 ^ s.inputs * y) ≡ bit_xor (at s.rows x) (sum_at ss y)
unfolding sum_at
box_one_lowest s ss x y h =
    let e : x + 2 ^ s.inputs * y ≡ y * 2 ^ s.inputs + x = add_comm x (2 ^ s.inputs * y) ∙ ap (λ (z : ℕ). z + x) (mul_comm (2 ^ s.inputs) y) in
    ap (sum_at (s ∷ ss)) e ∙ ap₂ (λ (i j : ℕ). bit_xor (at s.rows i) (sum_at ss j)) (low y s.inputs h) (high y s.inputs h)
