-- What document 01 says of the bounds beside the table. Assumes nothing.
use Rattle.refusals.specs.declared.Refusal.{Refusal}
use Rattle.std.specs.Prelude.{Result, Ok, Err, ⊤}
use Prim.Native.Nat.{ℕ, ◌^◌, ◌<◌}
use mathlib.Core.Path.{◌≡◌, ap}
use mathlib.Core.Bool.{Bool, true, false, cond}
use mathlib.Core.List.{List, [], ◌∷◌}
use native.Mathlib.Omega.{arith}
use lib.Dec.{eqb}
use lib.ListN.{length}
use Rattle.boolean.specs.Functions.{at}
use Rattle.refusals.specs.Table.{◌unless◌, first, in_range, all_below, box_checks, number}
use Rattle.refusals.specs.declared.Refusal.TheVariants.{InputWidth, OutputWidth, ReadLength, Value}
use Rattle.refusals.proofs.Bounds.{below_true}

-- what was found, as a number
found : Result ⊤ Refusal → ℕ
found (Ok tt) = 0
found (Err e) = number e

as_number : Bool → ℕ
as_number b = cond b 1 0

-- a last line whose test holds is never given
last_passed : (a b c d : Bool) → d ≡ true
    → first ((InputWidth unless a) ∷ (OutputWidth unless b) ∷ (ReadLength unless c) ∷ (Value unless d) ∷ []) ≡ Err Value → ⊥
unfolding first found as_number
last_passed true true true true t h = let e : found (Ok tt) ≡ found (Err Value) = ap found h in omega arith
last_passed true true true false t h = let e : as_number false ≡ as_number true = ap as_number t in omega arith
last_passed true true false d t h = let e : found (Err ReadLength) ≡ found (Err Value) = ap found h in omega arith
last_passed true false c d t h = let e : found (Err OutputWidth) ≡ found (Err Value) = ap found h in omega arith
last_passed false b c d t h = let e : found (Err InputWidth) ≡ found (Err Value) = ap found h in omega arith

-- At m = 32 no row can give 4: a row is a number of 32 bits.
pub thirty_two_outputs : (n : ℕ) (rows : List ℕ) → ((x : ℕ) → x < length rows → at rows x < 2 ^ 32) → first (box_checks n 32 rows) ≡ Err Value → ⊥
thirty_two_outputs n rows small h =
    last_passed (in_range 1 8 n) (in_range 1 32 32) (eqb (length rows) (2 ^ n)) (all_below (2 ^ 32) rows) (below_true (2 ^ 32) rows small) h
