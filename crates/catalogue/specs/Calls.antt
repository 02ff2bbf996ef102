-- What the calls on a catalogue reply, and what they leave.
use Rattle.catalogue.specs.declared.Extent.{Extent}
use Rattle.std.specs.Prelude.{Ok, Err}
use Rattle.std.specs.Prelude.{Result, ⊤}
use Rattle.refusals.specs.declared.Refusal.{Refusal}
use Rattle.std.specs.Prelude.{ℕ, ◌+◌, ◌≡◌, Bool, true, false, List, [], ◌∷◌, ◌++◌, ltb, leb, Option, Some, None, get_or, length, take, drop}
use Rattle.std.specs.Borrow.{Bor}
use Rattle.refusals.specs.Table.{Check, ◌unless◌, first, Reply, figures, refusal, number, reply_after, after, Wrote, said_written}
use Rattle.refusals.specs.declared.Refusal.TheVariants.{Catalogue, NoRoom, NoRecord}
use Rattle.boxfile.specs.File.{file_checks, alone_checks}
use Rattle.catalogue.specs.declared.Gap.{Gap}
use Rattle.catalogue.specs.Format.{Item, count, records, valid, build, records_start}

-- what the answers say: one number, or where a record lies and its length; or the number of the refusal
abbrev pub said_told : Result ℕ Refusal → Reply
said_told (Ok n) = figures (n ∷ [])
said_told (Err e) = refusal (number e)

abbrev pub said_fetched : Result Extent Refusal → Reply
said_fetched (Ok extent) = figures (extent.offset ∷ extent.size ∷ [])
said_fetched (Err e) = refusal (number e)

-- the check of a catalogue, which every call makes first
unfoldable pub catalogue_checks : List ℕ → List Check
catalogue_checks b = (Catalogue unless valid b) ∷ []

-- Checking: the number of records.
abbrev pub check_reply : List ℕ → Reply
check_reply b = reply_after (first (catalogue_checks b)) (count b ∷ [])

-- Fetching. An index counts from 0 in the directory's order.
unfoldable pub index_checks : (b : List ℕ) (index : ℕ) → List Check
index_checks b index = (Catalogue unless valid b) ∷ (NoRecord unless ltb index (count b)) ∷ []

-- no record: what `record_at` has past the last one, which the checks refuse, and the empty part that a refused call hands back
abbrev pub no_item : Item
no_item = record { start = 0; bytes = [] }

-- the record of an index
unfoldable pub record_at : (b : List ℕ) (index : ℕ) → Item
unfolding records
record_at b index = get_or (records b) index no_item

-- a part of a lent slice, and no copy. A contract sees a slice as a `RefT`: `ptr` is the block of memory in which it lies and where it
-- begins there, `now` is what it holds. The part lies in the same block, the record's start behind the slice's, and has the record's bytes.
pub record PartOf (lent : Bor (List ℕ)) (item : Item) (part : Bor (List ℕ)) : Type 0 where
  pub block : part.ref_ptr.0 ≡ lent.ref_ptr.0
  pub place : part.ref_ptr.1 ≡ lent.ref_ptr.1 + item.start
  pub content : part.now ≡ item.bytes

-- the outcome of fetching: the part that is handed back is the record, and where the call is refused the empty one at the catalogue's start
abbrev pub Handed : (lent : Bor (List ℕ)) (index : ℕ) (part : Bor (List ℕ)) → Type 0
Handed lent index part = PartOf lent (after (first (index_checks lent.now index)) (record_at lent.now index) no_item) part

-- where the record lies, and its length
abbrev pub fetch_reply : (b : List ℕ) (index : ℕ) → Reply
fetch_reply b index =
    reply_after (first (index_checks b index)) ((record_at b index).start ∷ length (record_at b index).bytes ∷ [])

-- Removing: the records without one.
unfoldable pub without : (index : ℕ) (rs : List Item) → List Item
without index rs = take index rs ++ drop (index + 1) rs

abbrev pub removed : (b : List ℕ) (index : ℕ) → List ℕ
removed b index = build (length b) (without index (records b))

-- the outcome of a call of `catalogue::remove`
abbrev pub RemoveCalled : (b : List ℕ) (index : ℕ) (answer : Result ⊤ Refusal) (left : List ℕ) → Type 0
RemoveCalled b index answer left = Wrote (index_checks b index) [] (removed b index) b (said_written answer) left

-- Adding. The lowest gap of `need` bytes, from a position on: the gap before the next record, or else one behind it; k is that record's
-- index.
unfoldable pub lowest : (need size k pos : ℕ) (rs : List Item) → Option Gap
lowest need size k pos [] = elim (leb (pos + need) size) [ true ↦ Some (record { index = k; start = pos }) | false ↦ None ]
lowest need size k pos (r ∷ rs) =
    elim (leb (pos + need) r.start)
    [ true ↦ Some (record { index = k; start = pos }) | false ↦ lowest need size (k + 1) (r.start + length r.bytes) rs ]

-- the gap that a file is put into
unfoldable pub gap_for : (b file : List ℕ) → Option Gap
unfolding lowest records
gap_for b file = lowest (length file) (length b) 0 records_start (records b)

abbrev pub is_gap : Option Gap → Bool
is_gap (Some gap) = true
is_gap None = false

-- the index of the new record (without a gap the call is refused by 14: that 0 is never answered)
abbrev pub gap_index : Option Gap → ℕ
gap_index (Some gap) = gap.index
gap_index None = 0

-- the checks of a file that is offered to a catalogue: the catalogue, then the file's own
unfoldable pub offered_checks : (b file : List ℕ) → List Check
unfolding file_checks
offered_checks b file = (Catalogue unless valid b) ∷ alone_checks file

-- the checks of adding: those, then 64 records or no gap
unfoldable pub add_checks : (b file : List ℕ) → List Check
unfolding offered_checks gap_for
add_checks b file =
    offered_checks b file ++ ((NoRoom unless ltb (count b) 64) ∷ (NoRoom unless is_gap (gap_for b file)) ∷ [])

-- the records with a file in a gap
abbrev pub added_at : (gap : Option Gap) (file : List ℕ) (rs : List Item) → List Item
added_at (Some gap) file rs = take gap.index rs ++ (record { start = gap.start; bytes = file } ∷ drop gap.index rs)
added_at None file rs = rs

abbrev pub added : (b file : List ℕ) → List ℕ
added b file = build (length b) (added_at (gap_for b file) file (records b))

-- the outcome of a call of `catalogue::add`: the new record's index, and the catalogue with it
abbrev pub AddCalled : (b file : List ℕ) (answer : Result ℕ Refusal) (left : List ℕ) → Type 0
AddCalled b file answer left = Wrote (add_checks b file) (gap_index (gap_for b file) ∷ []) (added b file) b (said_told answer) left

-- Compacting: the records from a position on, without gaps.
unfoldable pub without_gaps : (pos : ℕ) (rs : List Item) → List Item
without_gaps pos [] = []
without_gaps pos (r ∷ rs) = record { start = pos; bytes = r.bytes } ∷ without_gaps (pos + length r.bytes) rs

abbrev pub compacted : List ℕ → List ℕ
compacted b = build (length b) (without_gaps records_start (records b))

-- the outcome of a call of `catalogue::compact`
abbrev pub CompactCalled : (b : List ℕ) (answer : Result ⊤ Refusal) (left : List ℕ) → Type 0
CompactCalled b answer left = Wrote (catalogue_checks b) [] (compacted b) b (said_written answer) left
