-- Bijectivity: false where the widths differ, and else whether the rows are distinct. Assumes nothing.
use Prim.Native.Nat.{ℕ}
use mathlib.Core.Path.{◌≡◌, ap}
use mathlib.Core.Bool.{Bool, false, ◌&&◌}
use mathlib.Core.List.{List}
use borrow.Author.Tests.{eq-eqb, ne_eqb}
use lib.Dec.{eqb}
use Rattle.boolean.specs.Sums.{distinct}
use Rattle.algebraic.specs.Algebraic.{bijective}

pub bijective_unequal : (n m : ℕ) (rows : List ℕ) → (n ≡ m → ⊥) → bijective n m rows ≡ false
unfolding bijective
bijective_unequal n m rows ne = ap (λ (t : Bool). t && distinct eqb rows) (ne_eqb n m ne)

pub bijective_equal : (n m : ℕ) (rows : List ℕ) → n ≡ m → bijective n m rows ≡ distinct eqb rows
unfolding bijective
bijective_equal n m rows e = ap (λ (t : Bool). t && distinct eqb rows) (eq-eqb n m e)
