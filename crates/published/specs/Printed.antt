-- The text that the program writes of the boxes in box files.
use Rattle.std.specs.Prelude.{ℕ, zero, suc, ◌+◌, ◌-◌, ◌*◌, ◌%◌, min, cond, List, [], ◌∷◌, ◌++◌, leb, length, take, drop, codes}
use Rattle.boolean.specs.Functions.{at}
use Rattle.refusals.specs.Table.{first, Reply, figures, refusal, reply_after}
use Rattle.lines.specs.Lines.{numbers_line, refused_text, shown_reply, reply_line, figures_line}
use Rattle.linear.specs.Nonlinearity.{nonlinearity_reply}
use Rattle.differential.specs.Calls.{largest_cell_reply}
use Rattle.avalanche.specs.Calls.{autocorrelation_reply, distance_reply, complete_reply}
use Rattle.algebraic.specs.Calls.{box_degree_reply, bijective_reply}
use Rattle.columns.specs.Addition.{addition_checks, added_rows}
use Rattle.boxfile.specs.File.{room_of, file_checks, file_rows}

-- the line of the nonlinearity over all combinations
abbrev pub nonlinearity_shown : (n m : ℕ) (rows : List ℕ) → List ℕ
nonlinearity_shown n m rows = reply_line (codes "nonlinearity") (nonlinearity_reply n m rows m)

-- the lines of the autocorrelation and of the two dynamic distances, without its line end where one is refused
unfoldable pub changes_shown : (n m : ℕ) (rows : List ℕ) → List ℕ
changes_shown n m rows =
    codes "autocorrelation" ++ (figures_line [] (autocorrelation_reply n m rows m)
    ++ (codes "sac" ++ (figures_line [] (distance_reply n m rows 1 1)
    ++ (codes "bic" ++ figures_line [] (distance_reply n m rows 2 1)))))

-- behind its word, 1 or 0; behind the line of a refusal there is an empty one
abbrev pub verdict_text : Reply → List ℕ
verdict_text (figures xs) = numbers_line [] xs
verdict_text (refusal k) = refused_text k ++ 10 ∷ []

-- the lines of the two tests
unfoldable pub tests_shown : (n m : ℕ) (rows : List ℕ) → List ℕ
tests_shown n m rows =
    codes "complete" ++ (verdict_text (complete_reply n m rows) ++ (codes "bijective" ++ verdict_text (bijective_reply n m rows)))

-- the lines of the degree and of the two tests, and nothing where the degree is refused
unfoldable pub degree_shown : (n m : ℕ) (rows : List ℕ) → List ℕ
degree_shown n m rows =
    shown_reply (λ xs _. numbers_line (codes "degree") xs ++ tests_shown n m rows) (λ _. []) (box_degree_reply n m rows m) rows

-- what is shown of the reply to a column addition, and of the rows that it leaves: 256 rows are lent at most
abbrev pub addition_shown : (of_rows : List ℕ → List ℕ) (of_refusal : ℕ → List ℕ) (n m : ℕ) (rows : List ℕ) (j w b : ℕ) → List ℕ
addition_shown of_rows of_refusal n m rows j w b =
    shown_reply (λ _ left. of_rows left) of_refusal (reply_after (first (addition_checks n m rows j w b (min (length rows) 256))) [])
    (added_rows j w b rows)

-- the line of the refusal of an addition to a column that the box has not, and the nonlinearity of the rows that stand
unfoldable pub refused_shown : (n m : ℕ) (rows : List ℕ) → List ℕ
refused_shown n m rows = addition_shown (λ _. []) (λ k. refused_text k ++ nonlinearity_shown n m rows) n m rows (m % 65536 + 1) 0 0

-- the nonlinearity, and then the refused addition
unfoldable pub and_refused_shown : (n m : ℕ) (rows : List ℕ) → List ℕ
and_refused_shown n m rows = nonlinearity_shown n m rows ++ refused_shown n m rows

-- after inputs 1 and 3 are added to column m
unfoldable pub second_shown : (n m : ℕ) (rows : List ℕ) → List ℕ
second_shown n m rows = addition_shown (and_refused_shown n m) (λ _. []) n m rows m 5 0

-- the nonlinearity, and then the second addition
unfoldable pub and_second_shown : (n m : ℕ) (rows : List ℕ) → List ℕ
and_second_shown n m rows = nonlinearity_shown n m rows ++ second_shown n m rows

-- after input 1 and the constant 1 are added to column 1
unfoldable pub first_shown : (n m : ℕ) (rows : List ℕ) → List ℕ
first_shown n m rows = addition_shown (and_second_shown n m) (λ _. []) n m rows 1 1 1

-- the lines of a box
unfoldable pub box_shown : (n m : ℕ) (rows : List ℕ) → List ℕ
box_shown n m rows =
    numbers_line (codes "box") (n ∷ m ∷ []) ++ (nonlinearity_shown n m rows
    ++ (figures_line (codes "xor") (largest_cell_reply n m rows)
    ++ (changes_shown n m rows ++ (degree_shown n m rows ++ first_shown n m rows))))

-- the lines of the box in a file for which so many rows are lent, or the line of the refusal
unfoldable pub box_file_shown : (file : List ℕ) (room : ℕ) → List ℕ
box_file_shown file room =
    shown_reply (λ widths rows. box_shown (at widths 0) (at widths 1) rows) refused_text
    (reply_after (first (file_checks file room)) (at file 0 ∷ at file 1 ∷ [])) (file_rows file (at file 0))

-- where the first file of several ends: behind its rows, or where the bytes end
unfoldable pub file_end : (bytes : List ℕ) → ℕ
file_end bytes = 2 + min (4 * room_of bytes) (length bytes - 2)

-- the lines of files one behind the other, as long as two bytes are left: of so many files at most
unfoldable pub boxes_shown : (most : ℕ) (bytes : List ℕ) → List ℕ
boxes_shown zero bytes = []
boxes_shown (suc k) bytes =
    cond (leb 2 (length bytes))
    (box_file_shown (take (file_end bytes) bytes) (room_of bytes) ++ boxes_shown k (drop (file_end bytes) bytes)) []
