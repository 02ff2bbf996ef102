-- The columns of a box, one bit of each row: a column is the component at the mask that has its bit alone.
use mathlib.Core.Path.{◌≡◌, sym, ap, ◌∙◌}
use mathlib.Core.List.{List}
use Prim.Native.Nat.{ℕ, ◌-◌, ◌^◌, ◌<◌}
use native.Mathlib.Nat.{one-mul}
use native.Mathlib.Omega.{arith}
use Rattle.boolean.specs.Bits.{dot, bit}
use Rattle.boolean.specs.Functions.{at, column, component}
use Rattle.boolean.proofs.Dots.{dot_comm}
use Rattle.boolean.proofs.Digits.{bit_lt, component_dot, dot_placed}

module _ (rows : List ℕ) (j x : ℕ) where
  pub column_lt : column rows j x < 2
  unfolding column
  column_lt = bit_lt j (at rows x)

  pub component_column : component rows (2 ^ (j - 1)) x ≡ column rows j x
  unfolding column
  component_column =
      component_dot rows (2 ^ (j - 1)) x ∙ dot_comm (at rows x) (2 ^ (j - 1))
      ∙ ap (λ (c : ℕ). dot c (at rows x)) (sym (one-mul (2 ^ (j - 1)))) ∙ dot_placed j 1 (at rows x) (omega arith) ∙ one-mul (bit j (at rows x))
