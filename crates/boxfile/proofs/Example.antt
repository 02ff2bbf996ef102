-- A file byte by byte: two rows of which no two bytes are equal, as they are read and as they are written. Round trips alone would hold in
-- any order of the bytes. Assumes nothing.
use Prim.Native.Nat.{ℕ}
use mathlib.Core.Path.{◌≡◌, refl}
use mathlib.Core.List.{List, [], ◌∷◌}
use Rattle.boolean.specs.Sums.{list_from, list_below, each}
use Rattle.boxfile.specs.File.{row_at, file_rows, row_bytes, file_of}

-- n = 1, m = 32, and eight bytes: the first of a row is its lowest
abbrev pub eight_bytes : List ℕ
eight_bytes = 1 ∷ 32 ∷ 1 ∷ 2 ∷ 3 ∷ 4 ∷ 5 ∷ 6 ∷ 7 ∷ 8 ∷ []

pub four_bytes_read : file_rows eight_bytes 1 ≡ 67305985 ∷ 134678021 ∷ []
unfolding file_rows row_at list_below list_from
four_bytes_read = refl

pub four_bytes_written : file_of 1 32 (67305985 ∷ 134678021 ∷ []) ≡ eight_bytes
unfolding file_of row_bytes each
four_bytes_written = refl
