-- The sizes of an accepted box, as a sweep over its components needs them. Assumes nothing.
use mathlib.Core.Path.{sym}
use mathlib.Core.List.{List}
use Prim.Native.Nat.{ℕ, ◌*◌, ◌^◌, ◌≤◌, ◌<◌}
use native.Mathlib.Nat.{lt_of_lt_of_le, le_of_eq, mul-le-mul}
use lib.ListN.{length}
use lib.Pow.{pow_pos, pow_mono}
use Rattle.refusals.specs.Table.{Box}

module _ {n m : ℕ} {rows : List ℕ} (b : Box n m rows) where
  -- a box has rows
  pub box_some : 0 < length rows
  box_some = lt_of_lt_of_le (pow_pos n) (le_of_eq (sym b.size))

  -- its step tables have at most 8,192 entries
  pub steps_few : m * length rows ≤ 8192
  steps_few = mul-le-mul b.m_high b.small

  -- and no mask of it has more than 32 bits
  pub masks_fit : {c : ℕ} → c < 2 ^ m → c < 4294967296
  masks_fit h = lt_of_lt_of_le h (pow_mono b.m_high)
