-- A box's rows in an array for the most rows that a box has: they are its first.
use Prim.Native.Nat.{ℕ, ◌^◌}
use mathlib.Core.Path.{◌≡◌, sym, ap, ◌∙◌}
use mathlib.Core.List.{List}
use lib.ListN.{length, take}
use lib.Seq.{take-append_seam}
use Rattle.refusals.specs.Table.{filled}

pub filled_rows : (n : ℕ) (rows : List ℕ) → length rows ≡ 2 ^ n → take (2 ^ n) (filled rows) ≡ rows
filled_rows n rows h = ap (λ (k : ℕ). take k (filled rows)) (sym h) ∙ take-append_seam rows _
