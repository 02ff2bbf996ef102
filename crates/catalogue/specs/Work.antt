-- What the functions behind the calls leave.
use Rattle.std.specs.Prelude.{ℕ, ◌+◌, ◌-◌, ◌*◌, List, ◌++◌, take, drop, replicate}
use Rattle.std.proofs.lemmas.List.Edits.{sets}
use Rattle.catalogue.specs.declared.Place.{Place}
use Rattle.catalogue.specs.Format.{part, word}

-- a place from its two numbers
abbrev pub place_from : (offset size : ℕ) → Place
place_from offset size = record { offset = offset; size = size }

-- bytes moved down, or up, over a gap of zeros
abbrev pub slid_down : (to gap size : ℕ) (b : List ℕ) → List ℕ
slid_down to gap size b = take to b ++ (part (to + gap) size b ++ (replicate gap 0 ++ drop (to + gap + size) b))

abbrev pub slid_up : (from size gap : ℕ) (b : List ℕ) → List ℕ
slid_up from size gap b = take from b ++ (replicate gap 0 ++ (part from size b ++ drop (from + size + gap) b))

-- the buffer with a place taken out of its directory of n places, or put into it
unfoldable pub closed : (n k : ℕ) (b : List ℕ) → List ℕ
unfolding word
closed n k b = sets (slid_down (4 * k + 2) 4 (4 * (n - k - 1)) (sets b (4 * k + 2) (replicate 4 0))) 0 (word (n - 1))

unfoldable pub opened : (n k : ℕ) (p : Place) (b : List ℕ) → List ℕ
unfolding word
opened n k p b =
    sets (sets (sets (slid_up (4 * k + 2) (4 * (n - k)) 4 b) (4 * k + 2) (word p.offset)) (4 * k + 4) (word p.size)) 0 (word (n + 1))
