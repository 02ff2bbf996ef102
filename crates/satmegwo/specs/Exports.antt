-- The checks that the C library adds to those of the calls: of the arrays that are lent for the figures.
use Rattle.std.specs.Prelude.{ℕ, List, [], ◌∷◌, ◌++◌, eqb, leb, ltb, length}
use Rattle.refusals.specs.Table.{Check, ◌unless◌, box_checks, limit_checks}
use Rattle.refusals.specs.declared.Refusal.TheVariants.{WrittenLength, ListTooShort, NoRoom}
use Rattle.differential.specs.XorTable.{largest_cells}
use Rattle.nearest.specs.NearestPairs.{nearest_pairs}
use Rattle.boxfile.specs.File.{file_checks}
use Rattle.catalogue.specs.Format.{count}
use Rattle.catalogue.specs.Calls.{gap_for, is_gap, offered_checks}

-- the list of cells: the array for its one figure is looked at before the list
unfoldable pub cells_checks : (n m : ℕ) (rows : List ℕ) (room listed : ℕ) → List Check
unfolding largest_cells
cells_checks n m rows room listed =
    box_checks n m rows ++ (
    (WrittenLength unless eqb room 1)
    ∷ (ListTooShort unless leb (length (largest_cells n m rows)) listed)
    ∷ [])

-- all nearest pairs: the array for their number is looked at before the list
unfoldable pub nearest_checks : (n m : ℕ) (rows : List ℕ) (i room listed : ℕ) → List Check
unfolding limit_checks nearest_pairs
nearest_checks n m rows i room listed =
    limit_checks n m rows i ++ (
    (WrittenLength unless eqb room 1)
    ∷ (ListTooShort unless leb (length (nearest_pairs n m rows i)) listed)
    ∷ [])

-- reading a box file: the array for the rows is looked at before that for the two figures
unfoldable pub read_box_checks : (file : List ℕ) (rows room : ℕ) → List Check
unfolding file_checks
read_box_checks file rows room = file_checks file rows ++ ((WrittenLength unless eqb room 2) ∷ [])

-- adding to a catalogue: the array for the index is looked at after the catalogue and the file, and before the room
unfoldable pub add_record_checks : (b file : List ℕ) (room : ℕ) → List Check
unfolding offered_checks gap_for count
add_record_checks b file room =
    offered_checks b file ++ (
    (WrittenLength unless eqb room 1)
    ∷ (NoRoom unless ltb (count b) 64)
    ∷ (NoRoom unless is_gap (gap_for b file))
    ∷ [])

-- writing a sheet: the array for its text, which has room for any sheet, is looked at before that for its one figure
abbrev pub sheet_checks : (text room : ℕ) → List Check
sheet_checks text room = (WrittenLength unless eqb text 332) ∷ (WrittenLength unless eqb room 1) ∷ []

-- the version of the library, 1.0.0: ten thousand for the first number, a hundred for the second, one for the third
abbrev pub version : ℕ
version = 10000
