-- Document 01, "One sheet in full": the lines of the sheet of a box file, each with what its call replies, and where the sheet stops.
use Rattle.std.specs.Prelude.{ℕ, cond, List, [], ◌∷◌, ◌++◌, eqb, leb}
use Prim.Native.String.{String}
use Rattle.boolean.specs.Functions.{at}
use Rattle.refusals.specs.Table.{Reply, figures, refusal, reply_after}
use Rattle.linear.specs.Nonlinearity.{nonlinearity_reply}
use Rattle.differential.specs.Calls.{largest_cell_reply}
use Rattle.avalanche.specs.Calls.{autocorrelation_reply, distance_reply, complete_reply}
use Rattle.algebraic.specs.Calls.{box_degree_reply, bijective_reply}
use Rattle.boxfile.specs.File.{file_rows, file_found}
use Rattle.texts.specs.Text.{bytes, line}

-- A line of the sheet: how it shows the reply of its call.
pub data SheetLine : Type 0 where
  -- a word and the figures
  numbers : String → Reply → SheetLine
  -- a word, the figures, and the limit on combinations within which they were asked for
  limited : String → Reply → ℕ → SheetLine
  -- a word and yes or no
  decided : String → Reply → SheetLine
  -- a text that is made without a call
  fixed : String → SheetLine

-- yes or no, from the figure of a test
unfoldable pub yes_or_no : List ℕ → List ℕ
yes_or_no given = cond (eqb (at given 0) 1) (bytes " yes") (bytes " no")

-- what comes of a line: its text, or the end of the sheet where its figure is refused
pub data LineOutcome : Type 0 where
  prints : List ℕ → LineOutcome
  stops : LineOutcome

unfoldable pub outcome_of : SheetLine → LineOutcome
unfolding line yes_or_no
outcome_of (numbers word (figures given)) = prints (line (bytes word) given)
outcome_of (numbers word (refusal k)) = stops
outcome_of (limited word (figures given) i) = prints (line (bytes word) (given ++ (i ∷ [])))
outcome_of (limited word (refusal k) i) = stops
outcome_of (decided word (figures given)) = prints (line (bytes word ++ yes_or_no given) [])
outcome_of (decided word (refusal k)) = stops
outcome_of (fixed text) = prints (line (bytes text) [])

-- the sheet stops at the first refused figure
unfoldable pub until_refused : List SheetLine → List ℕ
unfolding outcome_of
until_refused [] = []
until_refused (l ∷ ls) = elim (outcome_of l) [ prints text ↦ (text ++ until_refused ls) | stops ↦ [] ]

-- the limit on combinations: all outputs up to 16 of them, and 4 above
unfoldable pub sheet_limit : ℕ → ℕ
sheet_limit m = cond (leb m 16) m 4

-- the sixth line: the dynamic distance of order (2, 1); with m = 1 there is none
abbrev pub bic_line : (n m : ℕ) (rows : List ℕ) → SheetLine
bic_line n m rows = cond (eqb m 1) (fixed "bic none") (numbers "bic" (distance_reply n m rows 2 1))

-- the lines after the first, in the document's order
unfoldable pub sheet_lines : (n m : ℕ) (rows : List ℕ) → List SheetLine
sheet_lines n m rows =
    limited "nonlinearity" (nonlinearity_reply n m rows (sheet_limit m)) (sheet_limit m)
    ∷ numbers "xor" (largest_cell_reply n m rows)
    ∷ limited "autocorrelation" (autocorrelation_reply n m rows (sheet_limit m)) (sheet_limit m)
    ∷ numbers "sac" (distance_reply n m rows 1 1)
    ∷ bic_line n m rows
    ∷ limited "degree" (box_degree_reply n m rows (sheet_limit m)) (sheet_limit m)
    ∷ decided "complete" (complete_reply n m rows)
    ∷ decided "bijective" (bijective_reply n m rows)
    ∷ []

-- what reading the file into an array that is as long as its rows replies: n and m, or the number of the refusal
unfoldable pub file_reply : (file : List ℕ) → Reply
unfolding file_found
file_reply file = reply_after (file_found file) (at file 0 ∷ at file 1 ∷ [])

-- The whole sheet of a file: the line of the widths and the lines of its box; a refused file has one line, and no other.
unfoldable pub sheet_text : List ℕ → List ℕ
unfolding file_reply line until_refused sheet_lines file_rows
sheet_text file =
    elim (file_reply file) [
      | figures widths ↦ (line (bytes "box") widths ++ until_refused (sheet_lines (at file 0) (at file 1) (file_rows file (at file 0))))
      | refusal k ↦ line (bytes "refused") (k ∷ [])
    ]
