-- A box with two rows exchanged is a box. Assumes nothing.
use mathlib.Core.Path.{◌∙◌}
use mathlib.Core.List.{List}
use Prim.Native.Nat.{ℕ, ◌^◌}
use native.Mathlib.Nat.{le_trans, le_of_eq}
use Rattle.boolean.specs.Functions.{swapped}
use Rattle.boolean.proofs.Swapped.{length_swapped, swapped_below}
use Rattle.refusals.specs.Table.{Box}

pub swapped_box : {n m : ℕ} {rows : List ℕ} → Box n m rows → (x y : ℕ) → Box n m (swapped rows x y)
swapped_box {n} {m} {rows} box x y = record {
  n_low = box.n_low;
  n_high = box.n_high;
  m_low = box.m_low;
  m_high = box.m_high;
  size = length_swapped x y rows ∙ box.size;
  small = le_trans (le_of_eq (length_swapped x y rows)) box.small;
  below = swapped_below x y rows (2 ^ m) box.below;
}
