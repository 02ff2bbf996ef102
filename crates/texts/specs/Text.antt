-- Text as bytes: a word, a number's decimal digits, and a line of a word and figures.
use Rattle.std.specs.Prelude.{ℕ, zero, suc, ◌+◌, ◌/◌, ◌%◌, true, false, List, [], ◌∷◌, ◌++◌, ltb}
use Prim.Native.Char.{code}
use Prim.Native.String.{String, [] as empty, ◌∷◌ as ◌then◌}
use Rattle.boolean.specs.Sums.{each}

-- a text as bytes: the codes of its characters, which are all below 128
abbrev pub bytes : String → List ℕ
bytes empty = []
bytes (c then s) = code c ∷ bytes s

-- the decimal digits of n, of at most d digits
unfoldable pub decimal_digits : (d n : ℕ) → List ℕ
decimal_digits zero n = []
decimal_digits (suc d) n = elim (ltb n 10) [ true ↦ ((48 + n) ∷ []) | false ↦ (decimal_digits d (n / 10) ++ ((48 + n % 10) ∷ [])) ]

-- a number of 32 bits as text
abbrev pub numeral : ℕ → List ℕ
numeral n = decimal_digits 10 n

-- a figure after a space, and figures, each after a space
abbrev pub spaced_figure : ℕ → List ℕ
spaced_figure figure = bytes " " ++ numeral figure

unfoldable pub spaced : List ℕ → List ℕ
unfolding each
spaced figures = each figures spaced_figure

-- a line: the word, the figures, each after a space, and the line's end
unfoldable pub line : (word figures : List ℕ) → List ℕ
unfolding spaced
line word figures = word ++ spaced figures ++ bytes "\n"
