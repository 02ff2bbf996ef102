-- What the theorems beside the contracts say; no contract needs it.
use Rattle.std.specs.Prelude.{Result, Ok, Err, ⊤}
use Rattle.refusals.specs.declared.Refusal.{Refusal}
use Rattle.std.specs.Prelude.{ℕ, ◌+◌, ◌≤◌, ◌<◌, ◌≡◌, Bool, true, false, List, [], ◌∷◌, ◌++◌, Option, Some, None, length, replicate}
use Rattle.boolean.specs.Functions.{at}
use Rattle.refusals.specs.declared.Refusal.TheVariants.{NoRoom}
use Rattle.catalogue.specs.declared.Gap.{Gap}
use Rattle.catalogue.specs.Format.{Item, accepted, count, records, valid, records_start}
use Rattle.catalogue.specs.Rules.{InRecord}

-- every element is a byte, as those of a lent buffer are by their type
abbrev pub AllBytes : List ℕ → Type 0
AllBytes b = (i : ℕ) → at b i < 256

-- accepted files that lie in order from a position on, without overlapping, up to the end
abbrev pub LieInOrder : (pos size : ℕ) (rs : List Item) → Type 0
LieInOrder pos size [] = pos ≤ size
LieInOrder pos size (r ∷ rs) = (pos ≤ r.start) × (accepted r.bytes ≡ true) × LieInOrder (r.start + length r.bytes) size rs

-- a buffer is a valid catalogue with exactly these records
pub record Holds (b : List ℕ) (rs : List Item) : Type 0 where
  pub whole : valid b ≡ true
  pub holds : records b ≡ rs

-- `need` bytes from a position on lie behind the directory and inside the buffer, and none of them is in a record
pub record Free (b : List ℕ) (pos need : ℕ) : Type 0 where
  pub above : records_start ≤ pos
  pub inside : pos + need ≤ length b
  pub none : (k i : ℕ) → k < count b → InRecord b k i → pos ≤ i → i < pos + need → ⊥

-- where a gap starts
abbrev pub gap_start : Option Gap → ℕ
gap_start (Some gap) = gap.start
gap_start None = 0

-- how many bytes the records take
unfoldable pub bytes_taken : List Item → ℕ
bytes_taken [] = 0
bytes_taken (r ∷ rs) = length r.bytes + bytes_taken rs

-- what adding an accepted file finds right after compaction: room, or none
abbrev pub room_found : Bool → Result ⊤ Refusal
room_found true = (Ok tt)
room_found false = Err NoRoom

-- ---- an example, byte by byte: in each place of the directory stand two numbers of which no two bytes are equal
-- the file of a box with one input and one output, whose rows are 0 and 1: ten bytes
abbrev pub small_file : List ℕ
small_file = 1 ∷ 1 ∷ 0 ∷ 0 ∷ 0 ∷ 0 ∷ 1 ∷ 0 ∷ 0 ∷ 0 ∷ []

-- the file of a box with six inputs and one output, whose rows are all 0: 258 bytes
abbrev pub long_file : List ℕ
long_file = 6 ∷ 1 ∷ replicate 256 0

abbrev pub two_items : List Item
two_items = record { start = 772; bytes = long_file } ∷ record { start = 1286; bytes = small_file } ∷ []

-- The count 2; the offset 772 and the length 258 of the first record, 1286 and 10 of the second; 62 places of zeros; zeros up to 772, the
-- first file, zeros up to 1286, the second file, and zeros up to the end.
abbrev pub behind_places : List ℕ
behind_places = replicate 248 0 ++ (replicate 514 0 ++ (long_file ++ (replicate 256 0 ++ (small_file ++ replicate 4 0))))

abbrev pub two_records : List ℕ
two_records = 2 ∷ 0 ∷ 4 ∷ 3 ∷ 2 ∷ 1 ∷ 6 ∷ 5 ∷ 10 ∷ 0 ∷ behind_places
