-- The Walsh values of a sum of boxes: the products of the boxes' values.
use mathlib.Core.Path.{◌≡◌, refl, sym, ap, ◌∙◌}
use mathlib.Core.List.{List, [], ◌∷◌}
use Prim.Native.Nat.{ℕ, suc, ◌+◌, ◌*◌, ◌/◌, ◌%◌, ◌^◌, ◌<◌}
use lib.Bits.{bit_xor}
use lib.Count.{ones, ones_in}
use lib.IntN.{ℤ, pos, negsuc, ◌*ℤ◌, nat_abs}
use Rattle.boolean.specs.Bits.{parity, dot}
use Rattle.boolean.specs.Sums.{sum_below}
use Rattle.boolean.specs.Functions.{at, agreement, walsh, component}
use Rattle.boolean.proofs.Digits.{component_dot, component_lt}
use Rattle.boolean.proofs.Dots.{dot_bit, dot_xor}
use Rattle.boolean.proofs.Ints.{neg-*ℤ}
use Rattle.boolean.proofs.Lists.{get_or_list_below}
use Rattle.boolean.proofs.Products.{abs_multiple}
use Rattle.boolean.proofs.Sizes.{abs_neg}
use Rattle.boolean.proofs.Walsh.{walsh_cong}
use Rattle.rounds.specs.Round.{Summand, inputs_of, sum_at, sum_rows, joined}
use Rattle.rounds.proofs.Parts.{walsh_parts}
use Rattle.rounds.specs.Statements.{MasksFit, walsh_of, product_at}

-- component c of the sum
pub component_sum : (ss : List Summand) (c x : ℕ) → x < 2 ^ inputs_of ss → component (sum_rows ss) c x ≡ dot (sum_at ss x) c
unfolding sum_rows
component_sum ss c x l = component_dot (sum_rows ss) c x ∙ ap (λ (r : ℕ). dot r c) (get_or_list_below (2 ^ inputs_of ss) (sum_at ss) x 0 l)

-- of no boxes
walsh_none : (c : ℕ) → walsh 0 (λ x. dot 0 c) 0 ≡ pos 1
unfolding walsh sum_below agreement dot parity ones ones_in
walsh_none c = refl

-- of a box and others
walsh_next : (s : Summand) (ss : List Summand) (c w v : ℕ) → w < 2 ^ s.inputs
    → walsh (inputs_of (s ∷ ss)) (λ x. dot (sum_at (s ∷ ss) x) c) (w + 2 ^ s.inputs * v) ≡ walsh_of s c w *ℤ walsh (inputs_of ss) (λ x. dot (sum_at ss x) c) v
unfolding inputs_of sum_at
walsh_next s ss c w v h =
    let f : ℕ → ℕ = component s.rows c in
    let g : ℕ → ℕ = λ x. dot (sum_at ss x) c in
    walsh_cong (s.inputs + inputs_of ss) _ (λ x. bit_xor (f (x % 2 ^ s.inputs)) (g (x / 2 ^ s.inputs))) (w + 2 ^ s.inputs * v)
    (λ x l.
    dot_xor (at s.rows (x % 2 ^ s.inputs)) (sum_at ss (x / 2 ^ s.inputs)) c
    ∙ ap (λ (z : ℕ). bit_xor z (g (x / 2 ^ s.inputs))) (sym (component_dot s.rows c (x % 2 ^ s.inputs))))
    ∙ walsh_parts s.inputs (inputs_of ss) f g w v (λ x l. component_lt s.rows c x) (λ x l. dot_bit (sum_at ss x) c) h

product_law : (ss : List Summand) (c : ℕ) (ws : List ℕ) → MasksFit ss ws → walsh (inputs_of ss) (λ x. dot (sum_at ss x) c) (joined ss ws) ≡ product_at ss c ws
unfolding inputs_of sum_at joined product_at
product_law [] c [] h = walsh_none c
product_law [] c (w ∷ ws) h = absurd h
product_law (s ∷ ss) c [] h = absurd h
product_law (s ∷ ss) c (w ∷ ws) h = walsh_next s ss c w (joined ss ws) h.0 ∙ ap (λ (z : ℤ). walsh_of s c w *ℤ z) (product_law ss c ws h.1)

-- the Walsh value of the sum at a mask put together is the product of the boxes' values
pub walsh_sum : (ss : List Summand) (c : ℕ) (ws : List ℕ) → MasksFit ss ws → walsh (inputs_of ss) (component (sum_rows ss) c) (joined ss ws) ≡ product_at ss c ws
walsh_sum ss c ws h = walsh_cong (inputs_of ss) _ _ (joined ss ws) (λ x l. component_sum ss c x l) ∙ product_law ss c ws h

-- the size of a product
pub abs_product : (a b : ℤ) → nat_abs (a *ℤ b) ≡ nat_abs a * nat_abs b
abs_product (pos a) b = abs_multiple a b
abs_product (negsuc a) b = ap nat_abs (neg-*ℤ (pos (suc a)) b) ∙ abs_neg (pos (suc a) *ℤ b) ∙ abs_multiple (suc a) b
