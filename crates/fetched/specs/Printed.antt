-- The text that the program writes of a catalogue.
use Rattle.std.specs.Prelude.{ℕ, List, [], ◌∷◌, ◌++◌, codes}
use Rattle.std.specs.List.{flat_map}
use Rattle.boolean.specs.Functions.{at}
use Rattle.boolean.specs.Sums.{each, list_below}
use Rattle.refusals.specs.Table.{first, reply_after, after}
use Rattle.lines.specs.Lines.{number_text, numbers_line, refused_text, shown_reply, reply_line}
use Rattle.boxfile.specs.File.{room_of, file_checks, file_rows}
use Rattle.catalogue.specs.Calls.{index_checks, record_at, no_item, fetch_reply}

-- the line of a box, whose inputs and outputs are the first two figures
abbrev pub box_line : (widths rows : List ℕ) → List ℕ
box_line widths rows =
    codes "box" ++ (number_text (at widths 0) ++ (number_text (at widths 1) ++ (codes " rows" ++ (flat_map number_text rows ++ 10 ∷ []))))

-- the line of the box in a file, or of the refusal
unfoldable pub file_shown : (file : List ℕ) → List ℕ
file_shown file =
    shown_reply box_line refused_text (reply_after (first (file_checks file (room_of file))) (at file 0 ∷ at file 1 ∷ []))
    (file_rows file (at file 0))

-- the lines of a record: its number, where it lies, and the box in the part that is handed back
unfoldable pub record_shown : (catalogue : List ℕ) (index : ℕ) → List ℕ
record_shown catalogue index =
    numbers_line (codes "record") (index ∷ []) ++ (reply_line (codes "at") (fetch_reply catalogue index)
    ++ file_shown (after (first (index_checks catalogue index)) (record_at catalogue index) no_item).bytes)

-- the lines of four records
unfoldable pub records_shown : (catalogue : List ℕ) → List ℕ
records_shown catalogue = each (list_below 4 (λ k. k)) (λ k. record_shown catalogue k)
