-- A box file: n, m in a byte each, then the rows, four bytes each, low byte first.
use Rattle.std.specs.Prelude.{Ok, Err, Result, ⊤, ℕ, ◌+◌, ◌*◌, ◌/◌, ◌%◌, ◌^◌, cond, List, [], ◌∷◌, ◌++◌, leb, eqb, length}
use Rattle.refusals.specs.declared.BoxWidths.{BoxWidths}
use Rattle.refusals.specs.declared.Refusal.{Refusal}
use Rattle.boolean.specs.Sums.{list_below, each}
use Rattle.boolean.specs.Functions.{at}
use Rattle.refusals.specs.Table.{Check, ◌unless◌, first, in_range, all_below, box_checks}
use Rattle.refusals.specs.Table.{Reply, figures, refusal, number, Wrote, said_written}
use Rattle.refusals.specs.declared.Refusal.TheVariants.{FileLength, InputWidth, OutputWidth, Value, WrittenLength}

-- row x, from its four bytes
unfoldable pub row_at : (file : List ℕ) (x : ℕ) → ℕ
row_at file x = at file (4 * x + 2) + 256 * at file (4 * x + 3) + 65536 * at file (4 * x + 4) + 16777216 * at file (4 * x + 5)

-- the rows of a box of n inputs
unfoldable pub file_rows : (file : List ℕ) (n : ℕ) → List ℕ
unfolding list_below row_at
file_rows file n = list_below (2 ^ n) (λ x. row_at file x)

-- the checks once n and m have been read; the rows go to an array of that room
unfoldable pub read_checks : (file : List ℕ) (n m room : ℕ) → List Check
unfolding file_rows
read_checks file n m room =
    (InputWidth unless in_range 1 8 n)
    ∷ (OutputWidth unless in_range 1 32 m)
    ∷ (FileLength unless eqb (length file) (2 + 4 * 2 ^ n))
    ∷ (Value unless all_below (2 ^ m) (file_rows file n))
    ∷ (WrittenLength unless eqb room (2 ^ n))
    ∷ []

-- the checks of a file: under 2 bytes there is no n and no m
unfoldable pub file_checks : (file : List ℕ) (room : ℕ) → List Check
unfolding read_checks
file_checks file room = (FileLength unless leb 2 (length file)) ∷ read_checks file (at file 0) (at file 1) room

-- what the answer says: n and m, or the number of the refusal
abbrev pub said_box_file : Result BoxWidths Refusal → Reply
said_box_file (Ok widths) = figures (widths.n ∷ widths.m ∷ [])
said_box_file (Err e) = refusal (number e)

-- the outcome of a call of `boxfile::read_box`
abbrev pub ReadCalled : (file lent : List ℕ) (answer : Result BoxWidths Refusal) (left : List ℕ) → Type 0
ReadCalled file lent answer left =
    Wrote (file_checks file (length lent)) (at file 0 ∷ at file 1 ∷ []) (file_rows file (at file 0)) lent (said_box_file answer) left

-- how many rows the file's n asks for: none where a box has no such n, and an empty file, whose n reads as 0, is one of these
unfoldable pub room_of : (file : List ℕ) → ℕ
room_of file = cond (in_range 1 8 (at file 0)) (2 ^ at file 0) 0

-- the checks of a file alone, as where its rows are given the room that they take: none is refused by 7; and what they find
abbrev pub alone_checks : (file : List ℕ) → List Check
alone_checks file = file_checks file (2 ^ at file 0)

unfoldable pub file_found : (file : List ℕ) → Result ⊤ Refusal
unfolding file_checks
file_found file = first (alone_checks file)

-- the four bytes of a row, low byte first
unfoldable pub row_bytes : (row : ℕ) → List ℕ
row_bytes row = row % 256 ∷ row / 256 % 256 ∷ row / 65536 % 256 ∷ row / 16777216 % 256 ∷ []

-- the file of a box
unfoldable pub file_of : (n m : ℕ) (rows : List ℕ) → List ℕ
unfolding each row_bytes
file_of n m rows = n ∷ m ∷ each rows row_bytes

-- the checks of writing a box to a file of that room: the box's, then the array
unfoldable pub write_checks : (n m : ℕ) (rows : List ℕ) (room : ℕ) → List Check
write_checks n m rows room = box_checks n m rows ++ ((WrittenLength unless eqb room (2 + 4 * 2 ^ n)) ∷ [])

-- the outcome of a call of `boxfile::write_box`
abbrev pub WriteCalled : (n m : ℕ) (rows lent : List ℕ) (answer : Result ⊤ Refusal) (left : List ℕ) → Type 0
WriteCalled n m rows lent answer left = Wrote (write_checks n m rows (length lent)) [] (file_of n m rows) lent (said_written answer) left
