-- Document 02 §7, the rules of a catalogue one by one. `valid` is the test that computes; it holds exactly of the buffers that keep these.
use Rattle.std.specs.Prelude.{Ok, ℕ, ◌+◌, ◌*◌, ◌≤◌, ◌<◌, ◌≡◌, List, length}
use Rattle.boolean.specs.Functions.{at}
use Rattle.boxfile.specs.File.{file_found}
use Rattle.catalogue.specs.Format.{part, count, place_at}

-- where record k begins and how long it is, and whether byte i is one of its bytes
abbrev pub offset : (b : List ℕ) (k : ℕ) → ℕ
offset b k = (place_at b k).offset

abbrev pub size : (b : List ℕ) (k : ℕ) → ℕ
size b k = (place_at b k).size

abbrev pub InRecord : (b : List ℕ) (k i : ℕ) → Type 0
InRecord b k i = (offset b k ≤ i) × (i < offset b k + size b k)

pub record Rules (b : List ℕ) : Type 0 where
  -- 258 to 65,535 bytes
  pub shortest : 258 ≤ length b
  pub longest : length b ≤ 65535
  -- a count of at most 64
  pub few : count b ≤ 64
  -- the places that are not used are zero
  pub unused : (i : ℕ) → 4 * count b + 2 ≤ i → i < 258 → at b i ≡ 0
  -- the places in use are sorted by offset
  pub sorted : (j k : ℕ) → j < k → k < count b → offset b j ≤ offset b k
  -- each record is a box file that is accepted
  pub files : (k : ℕ) → k < count b → file_found (part (offset b k) (size b k) b) ≡ (Ok tt)
  -- records lie at 258 or above, and end inside the buffer
  pub above : (k : ℕ) → k < count b → 258 ≤ offset b k
  pub inside : (k : ℕ) → k < count b → offset b k + size b k ≤ length b
  -- they do not overlap
  pub apart : (j k i : ℕ) → j < k → k < count b → InRecord b j i → InRecord b k i → ⊥
  -- all bytes behind the directory that are in no record are zero
  pub between : (i : ℕ) → 258 ≤ i → i < length b → ((k : ℕ) → k < count b → InRecord b k i → ⊥) → at b i ≡ 0
