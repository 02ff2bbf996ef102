-- How a text of digits is read as truth tables, a line each.
use Rattle.std.specs.Prelude.{ℕ, suc, ◌+◌, ◌-◌, ◌^◌, true, false, cond, List, [], ◌∷◌, map, eqb, ltb, leb, take, drop}
use Rattle.boolean.specs.Sums.{largest_below}

-- how many bytes the first line of a text has: those before the first line end, '\n', or all
unfoldable pub line_length : (text : List ℕ) → ℕ
line_length [] = 0
line_length (byte ∷ text) = elim (eqb byte 10) [ true ↦ 0 | false ↦ suc (line_length text) ]

-- where the line that starts at `from` ends
unfoldable pub line_end : (text : List ℕ) (from : ℕ) → ℕ
unfolding line_length
line_end text from = from + line_length (drop from text)

-- the largest width from 0 to 8 whose tables are no longer than this, and 0 where there is none
unfoldable pub width_of : (length : ℕ) → ℕ
unfolding largest_below
width_of length = largest_below 9 (λ n. cond (leb (2 ^ n) length) n 0)

-- a digit's value; a byte before '0' counts as 255, which is no truth value, and no more is one behind '1'
unfoldable pub digit_of : (byte : ℕ) → ℕ
digit_of byte = cond (ltb byte 48) 255 (byte - 48)

-- the values of k bytes
unfoldable pub digits_of : (text : List ℕ) (k : ℕ) → List ℕ
unfolding digit_of
digits_of text k = map digit_of (take k text)
