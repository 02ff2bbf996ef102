-- Document 02 §7: a catalogue of box files in one buffer, as it is read and as it is written.
use Rattle.std.specs.Prelude.{ℕ, ◌+◌, ◌-◌, ◌*◌, ◌/◌, ◌%◌, Bool, ◌&&◌, List, [], ◌∷◌, ◌++◌, map, leb, length, take, drop, replicate}
use Rattle.boolean.specs.Sums.{list_below, each}
use Rattle.boolean.specs.Functions.{at}
use Rattle.refusals.specs.Table.{in_range, all_below, is_accepted}
use Rattle.boxfile.specs.File.{file_found}
use Rattle.catalogue.specs.declared.Place.{Place}

-- a number in two bytes, low byte first: as it is read, and as it is written
unfoldable pub word_at : (b : List ℕ) (i : ℕ) → ℕ
word_at b i = at b i + 256 * at b (i + 1)

unfoldable pub word : ℕ → List ℕ
word v = v % 256 ∷ v / 256 ∷ []

-- where the first record may begin: behind the count and the directory of 64 places
abbrev pub records_start : ℕ
records_start = 258

-- `size` bytes from a start on
abbrev pub part : (start size : ℕ) (b : List ℕ) → List ℕ
part start size b = take size (drop start b)

-- every byte is 0
abbrev pub all_zero : List ℕ → Bool
all_zero bytes = all_below 1 bytes

-- a record with its bytes
pub record Item : Type 0 where
  pub start : ℕ
  pub bytes : List ℕ

-- a box file that is accepted
unfoldable pub accepted : List ℕ → Bool
unfolding file_found
accepted file = is_accepted (file_found file)

-- Reading: the count, the places in use, and the records that they name.
unfoldable pub count : List ℕ → ℕ
unfolding word_at
count b = word_at b 0

unfoldable pub place_at : (b : List ℕ) (k : ℕ) → Place
unfolding word_at
place_at b k = record { offset = word_at b (4 * k + 2); size = word_at b (4 * k + 4) }

unfoldable pub places : List ℕ → List Place
unfolding count place_at list_below
places b = list_below (count b) (λ k. place_at b k)

abbrev pub item_at : (b : List ℕ) (p : Place) → Item
item_at b p = record { start = p.offset; bytes = part p.offset p.size b }

unfoldable pub records : List ℕ → List Item
unfolding places
records b = map (item_at b) (places b)

-- a record stands at this place, past the end of what stands before it: it begins at that end or later and ends inside the buffer, the
-- bytes between are zero, and its own bytes are a box file that is accepted
unfoldable pub stands : (b : List ℕ) (end : ℕ) (p : Place) → Bool
unfolding accepted
stands b end p =
    leb end p.offset
    && (leb (p.offset + p.size) (length b)
    && (all_zero (part end (p.offset - end) b) && accepted (part p.offset p.size b)))

-- records stand at these places, one after the other, and the bytes behind the last one are zero
unfoldable pub stand : (b : List ℕ) (end : ℕ) (ps : List Place) → Bool
unfolding stands
stand b end [] = all_zero (drop end b)
stand b end (p ∷ ps) = stands b end p && stand b (p.offset + p.size) ps

-- the whole test: the length, the count, the places that are not used, the records with the bytes between them
unfoldable pub valid : List ℕ → Bool
unfolding count places stand
valid b =
    in_range records_start 65535 (length b)
    && (leb (count b) 64
    && (all_zero (part (4 * count b + 2) (4 * (64 - count b)) b) && stand b records_start (places b)))

-- Writing: the directory of some places, the bytes from a position on, and the whole buffer.
unfoldable pub place_bytes : Place → List ℕ
unfolding word
place_bytes p = word p.offset ++ word p.size

unfoldable pub directory : List Place → List ℕ
unfolding word place_bytes each
directory ps = word (length ps) ++ (each ps place_bytes ++ replicate (4 * (64 - length ps)) 0)

unfoldable pub body : (pos size : ℕ) (rs : List Item) → List ℕ
body pos size [] = replicate (size - pos) 0
body pos size (r ∷ rs) = replicate (r.start - pos) 0 ++ (r.bytes ++ body (r.start + length r.bytes) size rs)

abbrev pub place_of_item : Item → Place
place_of_item r = record { offset = r.start; size = length r.bytes }

unfoldable pub build : (size : ℕ) (rs : List Item) → List ℕ
unfolding directory body
build size rs = directory (map place_of_item rs) ++ body records_start size rs
