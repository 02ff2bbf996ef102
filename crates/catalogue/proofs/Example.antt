-- A catalogue byte by byte: two numbers of which the high byte is not the low one stand in each place of the directory, so that the order
-- of the bytes and that of offset and length both show. Round trips alone would hold in any order. Assumes nothing.
use mathlib.Core.Path.{◌≡◌, refl}
use mathlib.Core.Bool.{true, false}
use mathlib.Core.List.{[], ◌∷◌, ◌++◌}
use lib.ListN.{replicate}
use Rattle.boolean.specs.Sums.{each, every, list_from, list_below}
use Rattle.refusals.specs.Table.{first}
use Rattle.boxfile.specs.File.{row_at, file_rows, read_checks, file_checks, file_found}
use Rattle.catalogue.specs.Format.{word, word_at, place_at, places, place_bytes, directory, body, build, count, records, accepted, stands, stand, valid}
use Rattle.catalogue.specs.Statements.{small_file, two_items, behind_places, two_records}

pub one_record_lem : build 268 (record { start = 258; bytes = small_file } ∷ []) ≡ 1 ∷ 0 ∷ 2 ∷ 1 ∷ 10 ∷ 0 ∷ (replicate 252 0 ++ small_file)
unfolding build directory body word place_bytes each
one_record_lem = refl

pub two_written : build 1300 two_items ≡ two_records
unfolding build directory body word place_bytes each
two_written = refl

pub two_read : records two_records ≡ two_items
unfolding records places place_at count word_at list_below list_from
two_read = refl

pub two_valid : valid two_records ≡ true
unfolding valid count places place_at word_at list_below list_from stand stands accepted file_found file_checks read_checks file_rows row_at first every
two_valid = refl

-- the same bytes with the two places exchanged, so that they are not sorted by offset
pub unsorted_refused : valid (2 ∷ 0 ∷ 6 ∷ 5 ∷ 10 ∷ 0 ∷ 4 ∷ 3 ∷ 2 ∷ 1 ∷ behind_places) ≡ false
unfolding valid count places place_at word_at list_below list_from stand stands accepted file_found file_checks read_checks file_rows row_at first every
unsorted_refused = refl
