-- What the functions behind the sheet leave.
use Rattle.std.specs.Prelude.{ℕ, ◌+◌, ◌≤◌, ◌≡◌, Option, Some, None, List, [], ◌∷◌, ◌++◌, length}
use Rattle.std.proofs.lemmas.List.Edits.{sets}
use Rattle.texts.specs.Text.{bytes, line}
use Rattle.sheet.specs.Sheet.{SheetLine, prints, stops, outcome_of, until_refused, sheet_lines}

-- a line that is printed stands in the text from the start on up to the next place, and takes at most so many bytes
pub record LinePrinted (l : SheetLine) (most start : ℕ) (old : List ℕ) (next : ℕ) (new : List ℕ) : Type 0 where
  pub bytes : List ℕ
  pub is : outcome_of l ≡ prints bytes
  pub short : length bytes ≤ most
  pub stored : (next ≡ start + length bytes) × (new ≡ sets old start bytes)

-- and one that stops the sheet leaves the text as it is
abbrev pub LineWritten : (l : SheetLine) (most start : ℕ) (old : List ℕ) (answer : Option ℕ) (new : List ℕ) → Type 0
LineWritten l most start old (Some next) new = LinePrinted l most start old next new
LineWritten l most start old None new = (outcome_of l ≡ stops) × (new ≡ old)

-- lines that stand in the text from the start on up to the next place, as far as none is refused
pub record LinesWritten (ls : List SheetLine) (start : ℕ) (old : List ℕ) (next : ℕ) (new : List ℕ) : Type 0 where
  pub place : next ≡ start + length (until_refused ls)
  pub stored : new ≡ sets old start (until_refused ls)

-- the sheet of a box that was read
unfoldable pub box_text : (n m : ℕ) (rows : List ℕ) → List ℕ
box_text n m rows = line (bytes "box") (n ∷ m ∷ []) ++ until_refused (sheet_lines n m rows)

-- a text stands at the start of the buffer, within the room of a sheet, and the answer is how many bytes it has
pub record TextWritten (text old : List ℕ) (answer : ℕ) (new : List ℕ) : Type 0 where
  pub size : answer ≡ length text
  pub inside : answer ≤ 332
  pub content : new ≡ sets old 0 text
