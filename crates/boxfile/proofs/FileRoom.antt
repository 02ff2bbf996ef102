-- The room that the rows of a file are given, before the file is read. Assumes nothing.
use Prim.Native.Nat.{ℕ, ◌^◌, ◌≤◌, zero-le}
use mathlib.Core.Path.{◌≡◌, refl, sym, ap, ◌∙◌}
use mathlib.Core.Bool.{Bool, true, false, cond}
use mathlib.Core.List.{List}
use native.Mathlib.Nat.{le_trans, le_of_eq}
use native.Mathlib.Omega.{arith}
use lib.Dec.{leb}
use lib.ListN.{length, get_or-eq_default}
use lib.Pow.{pow_mono}
use Rattle.boolean.specs.Functions.{at}
use Rattle.refusals.specs.Table.{first, in_range}
use Rattle.refusals.proofs.Bounds.{range_high}
use Rattle.refusals.proofs.Checks.{found, skip, stop}
use Rattle.boxfile.specs.File.{read_checks, file_checks, room_of, file_found}

-- where n is none that a box has there is no room, and the checks do not ask for it
pub room_of_none : (file : List ℕ) → in_range 1 8 (at file 0) ≡ false → room_of file ≡ 0
unfolding room_of
room_of_none file h = ap (λ (t : Bool). cond t (2 ^ at file 0) 0) h

room_not_asked : (file : List ℕ) (a b : ℕ) → in_range 1 8 (at file 0) ≡ false → first (file_checks file a) ≡ first (file_checks file b)
unfolding file_checks read_checks
room_not_asked file a b h = by (leb 2 (length file)) refl
  where
    by : (long : Bool) → leb 2 (length file) ≡ long → first (file_checks file a) ≡ first (file_checks file b)
    by true e = sym (found (skip e (stop h))) ∙ found (skip e (stop h))
    by false e = sym (found (stop e)) ∙ found (stop e)

-- an empty file has no n
pub room_of_empty : (file : List ℕ) → length file ≡ 0 → room_of file ≡ 0
room_of_empty file h =
    let none : at file 0 ≡ 0 = get_or-eq_default file 0 (let le : length file ≤ 0 = omega arith in le) in
    room_of_none file (ap (in_range 1 8) none)

pub room_of_rows : (file : List ℕ) → in_range 1 8 (at file 0) ≡ true → room_of file ≡ 2 ^ at file 0
unfolding room_of
room_of_rows file h = ap (λ (t : Bool). cond t (2 ^ at file 0) 0) h

pub room_small : (file : List ℕ) → room_of file ≤ 256
room_small file = by (in_range 1 8 (at file 0)) refl
  where
    by : (t : Bool) → in_range 1 8 (at file 0) ≡ t → room_of file ≤ 256
    by true h = le_trans (le_of_eq (room_of_rows file h)) (let high : at file 0 ≤ 8 = range_high 1 8 (at file 0) h in pow_mono high)
    by false h = le_trans (le_of_eq (room_of_none file h)) zero-le

-- With that room the checks find what they find with the room that the rows take.
pub room_same : (file : List ℕ) → first (file_checks file (room_of file)) ≡ file_found file
unfolding file_found
room_same file = by (in_range 1 8 (at file 0)) refl
  where
    by : (t : Bool) → in_range 1 8 (at file 0) ≡ t → first (file_checks file (room_of file)) ≡ first (file_checks file (2 ^ at file 0))
    by true h = ap (λ (room : ℕ). first (file_checks file room)) (room_of_rows file h)
    by false h = room_not_asked file (room_of file) (2 ^ at file 0) h
