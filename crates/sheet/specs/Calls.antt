-- The outcome of the call that writes a sheet.
use Rattle.std.specs.Prelude.{ℕ, ◌≤◌, ◌≡◌, List, length}
use Rattle.std.proofs.lemmas.List.Edits.{sets}
use Rattle.sheet.specs.Sheet.{sheet_text}

-- the sheet of a file stands at the start of the text, and the answer is how many bytes it has
pub record SheetWritten (file old : List ℕ) (answer : ℕ) (new : List ℕ) : Type 0 where
  pub size : answer ≡ length (sheet_text file)
  pub inside : answer ≤ 332
  pub text : new ≡ sets old 0 (sheet_text file)
