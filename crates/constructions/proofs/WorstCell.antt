-- The enlarged box has the worst largest cell there is: the input difference 2^n + 2^(k − 1) always gives the output difference 2^n.
use mathlib.Core.Path.{◌≡◌, sym, ap, ap₂, ◌∙◌}
use mathlib.Core.Bool.{Bool, true, not}
use mathlib.Core.List.{List}
use Prim.Native.Nat.{ℕ, suc, ◌+◌, ◌*◌, ◌-◌, ◌^◌, ◌<◌, ◌≤◌}
use native.Mathlib.Nat.{one-mul, add-zero, two-pow-succ}
use native.Mathlib.Omega.{arith}
use borrow.Author.Tests.{eq-eqb}
use lib.Bits.{bit_xor, xor_block, xor_comm, xor_lt, xor_self, xor_zero_r}
use lib.Dec.{eqb}
use lib.Pow.{pow_pos}
use Rattle.boolean.specs.Functions.{at}
use Rattle.boolean.specs.Sums.{count_below}
use Rattle.boolean.specs.Selection.{Candidate}
use Rattle.boolean.proofs.Counted.{count_no}
use Rattle.boolean.proofs.Counts.{count_le, count_not}
use Rattle.boolean.proofs.Transform.{half_cases, lower_lt, upper_lt, xor_01, xor_11}
use Rattle.boolean.proofs.Xor.{xor_cancel, xor_cancel_left}
use Rattle.differential.specs.XorTable.{difference, cell, largest_cell}
use Rattle.differential.proofs.FirstCell.{largest_cell_most, largest_cell_reached}
use Rattle.constructions.specs.Enlargement.{enlarged_rows}
use Rattle.constructions.proofs.Halves.{input_bit_lt, enlarged_lower, enlarged_upper, at_enlarged_rows}

-- a test that passes everywhere counts all
count_every : (k : ℕ) (p : ℕ → Bool) → ((x : ℕ) → x < k → p x ≡ true) → count_below k p ≡ k
count_every k p h = omega (arith, count_not k p, count_no k (λ x. not (p x)) (λ x l. ap not (h x l)))

-- no cell counts more than all inputs
cell_le : (n : ℕ) (rows : List ℕ) (a β : ℕ) → cell n rows a β ≤ 2 ^ n
unfolding cell
cell_le n rows a β = count_le (2 ^ n) (λ x. eqb (difference rows a x) β)

module _ (n : ℕ) (rows table : List ℕ) (k : ℕ) (below : (x : ℕ) → x < 2 ^ n → at rows x < 2 ^ n) (lo : 1 ≤ k) (hi : k ≤ n) where
  -- the input that the upper half changes
  abbrev e : ℕ
  e = 2 ^ (k - 1)

  -- it is below 2^n
  e_lt : e < 2 ^ n
  e_lt = input_bit_lt n k lo hi

  -- the new row at x
  abbrev new : ℕ → ℕ
  new x = at (enlarged_rows n rows table k) x

  -- a new row in the lower half
  lower_row : (x : ℕ) → x < 2 ^ n → new x ≡ at table x * 2 ^ n + at rows x
  lower_row x l =
      at_enlarged_rows n rows table k x (lower_lt n x l)
      ∙ ap₂ (λ (t v : ℕ). t * 2 ^ n + v) (enlarged_lower n (at table) k 1 x l) (enlarged_lower n (at rows) k 0 x l)

  -- and in the upper half
  upper_row : (x : ℕ) → x < 2 ^ n → new (2 ^ n + x) ≡ bit_xor (at table (bit_xor x e)) 1 * 2 ^ n + at rows (bit_xor x e)
  upper_row x l =
      at_enlarged_rows n rows table k (2 ^ n + x) (upper_lt n x l)
      ∙ ap₂ (λ (t v : ℕ). t * 2 ^ n + v) (enlarged_upper n (at table) k 1 x) (enlarged_upper n (at rows) k 0 x ∙ xor_zero_r (at rows (bit_xor x e)))

  -- an input and the one that stands across from it: their rows differ in the top bit alone
  across_rows : (x : ℕ) → x < 2 ^ n → bit_xor (new x) (new (2 ^ n + bit_xor x e)) ≡ 2 ^ n
  across_rows x l =
      ap₂ bit_xor (lower_row x l) (upper_row (bit_xor x e) (xor_lt n x e l e_lt) ∙ ap (λ (y : ℕ). bit_xor (at table y) 1 * 2 ^ n + at rows y) (xor_cancel x e))
      ∙ xor_block n (at table x) (bit_xor (at table x) 1) (at rows x) (at rows x) (below x l) (below x l)
      ∙ ap₂ (λ (t v : ℕ). t * 2 ^ n + v) (xor_cancel_left (at table x) 1) (xor_self (at rows x)) ∙ add-zero (1 * 2 ^ n) ∙ one-mul (2 ^ n)

  -- the input difference 2^n + 2^(k − 1) gives the output difference 2^n at every input
  pub constant_difference : (x : ℕ) → x < 2 ^ suc n → difference (enlarged_rows n rows table k) (2 ^ n + 2 ^ (k - 1)) x ≡ 2 ^ n
  unfolding difference
  constant_difference = half_cases n (λ x. bit_xor (new x) (new (bit_xor x (2 ^ n + e))) ≡ 2 ^ n)
      (λ x l. ap (λ (y : ℕ). bit_xor (new x) (new y)) (xor_01 n x e l e_lt) ∙ across_rows x l)
      (λ x l.
      ap (λ (y : ℕ). bit_xor (new (2 ^ n + x)) (new y)) (xor_11 n x e l e_lt) ∙ xor_comm (new (2 ^ n + x)) (new (bit_xor x e))
      ∙ ap (λ (y : ℕ). bit_xor (new (bit_xor x e)) (new (2 ^ n + y))) (sym (xor_cancel x e)) ∙ across_rows (bit_xor x e) (xor_lt n x e l e_lt))

  -- so that cell counts every input
  pub full_cell : cell (suc n) (enlarged_rows n rows table k) (2 ^ n + 2 ^ (k - 1)) (2 ^ n) ≡ 2 ^ suc n
  unfolding cell
  full_cell = count_every (2 ^ suc n) (λ x. eqb (difference (enlarged_rows n rows table k) (2 ^ n + e) x) (2 ^ n))
      (λ x l. eq-eqb (difference (enlarged_rows n rows table k) (2 ^ n + e) x) (2 ^ n) (constant_difference x l))

  -- and is the largest
  pub full_cell_largest : (largest_cell (suc n) (suc n) (enlarged_rows n rows table k)).figure ≡ 2 ^ suc n
  full_cell_largest =
      let r = largest_cell_reached (suc n) (suc n) (enlarged_rows n rows table k) (omega arith) in
      let at_least_lem = largest_cell_most (suc n) (suc n) (enlarged_rows n rows table k) (2 ^ n + e) (2 ^ n)
      (record { a_low = omega (arith, pow_pos n); a_high = upper_lt n e e_lt; β_high = omega (arith, pow_pos n, two-pow-succ n) }) in
      let at_most = cell_le (suc n) (enlarged_rows n rows table k) r.0 r.1 in
      omega (arith, full_cell, at_least_lem, at_most, ap (λ (c : Candidate). c.figure) r.3)
