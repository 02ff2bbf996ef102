-- The text that the program writes.
use Rattle.std.specs.Prelude.{ℕ, ◌^◌, min, true, false, List, [], ◌∷◌, ◌++◌, eqb, length, ℤ, pos, negsuc, codes}
use Rattle.std.specs.Fmt.{decimal, signed_decimal}
use Rattle.std.specs.List.{flat_map}
use Rattle.boolean.specs.Functions.{at, value_at, spectrum, inverse}
use Rattle.boolean.specs.Sums.{list_below}
use Rattle.refusals.specs.Table.{first, reply_after, table_call_checks}
use Rattle.lines.specs.Lines.{refused_text, shown_reply}
use Rattle.walsh.specs.Calls.{inverse_checks}
use Rattle.spectra.specs.Reading.{width_of, digits_of}

-- a value after a space
abbrev pub value_text : (v : ℤ) → List ℕ
value_text v = 32 ∷ signed_decimal v

-- the line of a spectrum
abbrev pub spectrum_text : (values : List ℤ) → List ℕ
spectrum_text values = codes "spectrum" ++ (flat_map value_text values ++ 10 ∷ [])

-- the line of a truth table
abbrev pub table_text : (table : List ℕ) → List ℕ
table_text table = codes "function " ++ (flat_map decimal table ++ 10 ∷ [])

-- the line of the function that has the values, or of the refusal: 256 places are lent at most
unfoldable pub function_shown : (n : ℕ) (values : List ℤ) → List ℕ
function_shown n values =
    shown_reply (λ _ table. table_text table) refused_text (reply_after (first (inverse_checks n values (min (length values) 256))) [])
    (list_below (2 ^ n) (λ x. inverse n (value_at values) x))

-- the line of a spectrum, and that of the function that has it
unfoldable pub spectrum_shown : (n : ℕ) (values : List ℤ) → List ℕ
spectrum_shown n values = spectrum_text values ++ function_shown n values

-- the lines of a truth table's spectrum and of the function that has it, or of the refusal: 256 values are lent at most
unfoldable pub table_shown : (n : ℕ) (table : List ℕ) → List ℕ
table_shown n table =
    shown_reply (λ _ values. spectrum_shown n values) refused_text
    (reply_after (first (table_call_checks n table (min (length table) 256))) []) (spectrum n (at table))

-- the answer for a line of digits: more than 512 of them are refused as 512 are
unfoldable pub line_shown : (text : List ℕ) → List ℕ
line_shown text =
    let table = digits_of text (min (length text) 512) in
    table_shown (width_of (length table)) table

-- the lines with a byte before the first
abbrev pub begun_with : (byte : ℕ) (lines : List (List ℕ)) → List (List ℕ)
begun_with byte [] = (byte ∷ []) ∷ []
begun_with byte (line ∷ lines) = (byte ∷ line) ∷ lines

-- the lines of a text, without their line ends: behind the last line end there is one more line only where bytes are left
unfoldable pub lines_of : (text : List ℕ) → List (List ℕ)
lines_of [] = []
lines_of (byte ∷ text) = elim (eqb byte 10) [ true ↦ [] ∷ lines_of text | false ↦ begun_with byte (lines_of text) ]

-- the answers for the lines of a text
unfoldable pub lines_shown : (text : List ℕ) → List ℕ
lines_shown text = flat_map line_shown (lines_of text)

-- the answers for the values that are given here
unfoldable pub values_shown : List ℕ
values_shown =
    function_shown 2 (pos 1 ∷ pos 1 ∷ pos 1 ∷ negsuc 0 ∷ [])
    ++ (function_shown 2 (pos 1 ∷ pos 1 ∷ pos 1 ∷ pos 1 ∷ [])
    ++ (function_shown 1 (pos 0 ∷ pos 0 ∷ [])
    ++ (function_shown 1 (pos 2147483647 ∷ negsuc 2147483647 ∷ [])
    ++ (function_shown 2 (pos 3 ∷ pos 1 ∷ pos 1 ∷ negsuc 0 ∷ [])
    ++ (function_shown 2 (pos 2 ∷ pos 2 ∷ pos 2 ∷ negsuc 1 ∷ [])
    ++ (function_shown 0 (pos 1 ∷ [])
    ++ function_shown 2 (pos 1 ∷ pos 1 ∷ [])))))))
