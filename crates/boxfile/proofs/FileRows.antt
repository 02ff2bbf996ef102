-- The rows of a file as a list, and the box of a file that is accepted. Assumes nothing.
use Rattle.std.specs.Prelude.{Ok}
use mathlib.Core.Path.{◌≡◌}
use mathlib.Core.List.{List, []}
use Prim.Native.Nat.{ℕ, ◌+◌, ◌*◌, ◌^◌, ◌≤◌, ◌<◌}
use borrow.Author.Tests.{eq-eqb, eqb-true, leb-true}
use lib.ListN.{length}
use Rattle.boolean.specs.Functions.{at}
use Rattle.refusals.specs.Table.{first, box_checks, Box}
use Rattle.refusals.proofs.Checks.{passed, accepted, box}
use Rattle.boolean.proofs.Lists.{length_list_below, get_or_list_below}
use Rattle.boxfile.specs.File.{row_at, file_rows, read_checks, file_checks, file_found}

pub length_rows : (file : List ℕ) (n : ℕ) → length (file_rows file n) ≡ 2 ^ n
unfolding file_rows
length_rows file n = length_list_below (2 ^ n) (λ x. row_at file x)

pub row_of_rows : (file : List ℕ) (n x : ℕ) → x < 2 ^ n → at (file_rows file n) x ≡ row_at file x
unfolding file_rows
row_of_rows file n x l = get_or_list_below (2 ^ n) (λ x. row_at file x) x 0 l

-- what the checks of an accepted file say
pub record Whole (file : List ℕ) (room : ℕ) : Type 0 where
  pub two : 2 ≤ length file
  pub size : length file ≡ 2 + 4 * 2 ^ at file 0
  pub room_is : room ≡ 2 ^ at file 0

pub whole : (file : List ℕ) (room : ℕ) → first (file_checks file room) ≡ (Ok tt) → Whole file room
unfolding file_checks read_checks
whole file room h =
    let p = passed (file_checks file room) h in
    record { two = leb-true 2 (length file) p.0; size = eqb-true _ _ p.1.1.1.0; room_is = eqb-true _ _ p.1.1.1.1.1.0 }

-- the box of an accepted file is accepted
pub box_of_file : (file : List ℕ) → file_found file ≡ (Ok tt) → Box (at file 0) (at file 1) (file_rows file (at file 0))
unfolding file_found file_checks read_checks
box_of_file file h =
    let n = at file 0 in
    let m = at file 1 in
    let rows = file_rows file n in
    let p = passed (file_checks file (2 ^ n)) h in
    let rows_many = eq-eqb (length rows) (2 ^ n) (length_rows file n) in
    box n m rows [] (accepted (box_checks n m rows) (p.1.0, (p.1.1.0, (rows_many, (p.1.1.1.1.0, tt)))))
