-- What the theorems beside the contracts say; no contract needs it.
use Rattle.std.specs.Prelude.{ℕ, cond, List, [], ◌∷◌, ◌++◌, eqb}
use Rattle.boolean.specs.Selection.{shown}
use Rattle.refusals.specs.Table.{in_range, as_figure}
use Rattle.linear.specs.Nonlinearity.{nonlinearity}
use Rattle.differential.specs.XorTable.{largest_cell}
use Rattle.avalanche.specs.Avalanche.{box_autocorrelation, dynamic_distance, complete}
use Rattle.algebraic.specs.Algebraic.{box_degree, bijective}
use Rattle.texts.specs.Text.{bytes, line}
use Rattle.sheet.specs.Sheet.{yes_or_no, sheet_limit}

-- the sixth line, where its figure is not refused
abbrev pub bic_text : (n m : ℕ) (rows : List ℕ) → List ℕ
bic_text n m rows = cond (eqb m 1) (line (bytes "bic none") []) (line (bytes "bic") (shown (dynamic_distance n m rows 2 1)))

-- the texts of a box's lines after the first, where no figure is refused
abbrev pub texts_of : (n m : ℕ) (rows : List ℕ) → List (List ℕ)
texts_of n m rows =
    line (bytes "nonlinearity") (shown (nonlinearity n m rows (sheet_limit m)) ++ (sheet_limit m ∷ []))
    ∷ line (bytes "xor") (shown (largest_cell n m rows))
    ∷ line (bytes "autocorrelation") (shown (box_autocorrelation n m rows (sheet_limit m)) ++ (sheet_limit m ∷ []))
    ∷ line (bytes "sac") (shown (dynamic_distance n m rows 1 1))
    ∷ bic_text n m rows
    ∷ line (bytes "degree") (shown (box_degree n m rows (sheet_limit m)) ++ (sheet_limit m ∷ []))
    ∷ line (bytes "complete" ++ yes_or_no (as_figure (complete n m rows))) []
    ∷ line (bytes "bijective" ++ yes_or_no (as_figure (bijective n m rows))) []
    ∷ []

-- the number of a file that is longer than that of any box: what n and m say, and else 10
abbrev pub long_number : (n m : ℕ) → ℕ
long_number n m = cond (in_range 1 8 n) (cond (in_range 1 32 m) 10 2) 1

-- document 01's example, the file of the box 3 1 4 0 2 5 6 7 of three inputs and outputs
abbrev pub example_file : List ℕ
example_file =
    3 ∷ 3
    ∷ 3 ∷ 0 ∷ 0 ∷ 0
    ∷ 1 ∷ 0 ∷ 0 ∷ 0
    ∷ 4 ∷ 0 ∷ 0 ∷ 0
    ∷ 0 ∷ 0 ∷ 0 ∷ 0
    ∷ 2 ∷ 0 ∷ 0 ∷ 0
    ∷ 5 ∷ 0 ∷ 0 ∷ 0
    ∷ 6 ∷ 0 ∷ 0 ∷ 0
    ∷ 7 ∷ 0 ∷ 0 ∷ 0
    ∷ []

-- a file of the smallest widths, one input and one output: both rows 0, and the rows 0 and 1
abbrev pub zero_file : List ℕ
zero_file = 1 ∷ 1 ∷ 0 ∷ 0 ∷ 0 ∷ 0 ∷ 0 ∷ 0 ∷ 0 ∷ 0 ∷ []

abbrev pub bit_file : List ℕ
bit_file = 1 ∷ 1 ∷ 0 ∷ 0 ∷ 0 ∷ 0 ∷ 1 ∷ 0 ∷ 0 ∷ 0 ∷ []
