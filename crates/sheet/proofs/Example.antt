-- Document 01's example, the box 3 1 4 0 2 5 6 7 of three inputs and outputs, and the two boxes of one input and one output that are not
-- each other's complement: their sheets, computed from the definitions. Assumes nothing.
use mathlib.Core.Path.{◌≡◌, refl}
use lib.Count.{ones}
use Rattle.boolean.specs.Bits.{parity, dot, affine, bit, ones_within}
use Rattle.boolean.specs.Sums.{sum_below, count_below, xor_below, list_from, list_below, each, every, keep, largest_below, distinct, one_if}
use Rattle.boolean.specs.Functions.{agreement, distance, autocorrelation, changes, coefficient, degree, column, component, components}
use Rattle.boolean.specs.Selection.{best, first_least, first_largest}
use Rattle.refusals.specs.Table.{first, limit_checks}
use Rattle.linear.specs.Nonlinearity.{pairs_of, pairs, nonlinearity}
use Rattle.differential.specs.XorTable.{difference, cell, cells_of, cells, largest_cell}
use Rattle.avalanche.specs.Avalanche.{shifts, at_most, changes_of, measured, box_autocorrelation, imbalance, dynamic_distance, complete}
use Rattle.avalanche.specs.Calls.{distance_checks}
use Rattle.algebraic.specs.Algebraic.{degrees, box_degree, bijective}
use Rattle.boxfile.specs.File.{row_at, file_rows, read_checks, file_checks, file_found}
use Rattle.texts.specs.Text as text
use Rattle.texts.specs.Text.{bytes, spaced, line}
use Rattle.sheet.specs.Sheet.{yes_or_no, outcome_of, until_refused, sheet_limit, sheet_lines, file_reply, sheet_text}
use Rattle.sheet.specs.Statements.{example_file, zero_file, bit_file}

-- The sheet that document 01 prints, with the degree and the limits of document 02.
pub example_sheet : sheet_text example_file ≡ bytes "box 3 3\nnonlinearity 0 7 7 0 3\nxor 4 3 3\nautocorrelation 8 1 3 3\nsac 0 1 1\nbic 0 1 1\ndegree 1 7 3\ncomplete yes\nbijective yes\n"
unfolding parity dot affine bit ones_within ones sum_below one_if count_below xor_below list_from list_below each every keep largest_below distinct agreement distance autocorrelation changes coefficient degree column component components best first_least first_largest first limit_checks pairs_of pairs nonlinearity difference cell cells_of cells largest_cell shifts at_most changes_of measured box_autocorrelation imbalance dynamic_distance complete distance_checks degrees box_degree bijective row_at file_rows read_checks file_checks file_found text.decimal_digits spaced line yes_or_no outcome_of until_refused sheet_limit sheet_lines file_reply sheet_text
example_sheet = refl

-- With one output there is no bic; a constant output is neither complete nor bijective, and the input itself is both.
pub zero_sheet : sheet_text zero_file ≡ bytes "box 1 1\nnonlinearity 0 1 0 0 1\nxor 2 1 0\nautocorrelation 2 1 1 1\nsac 1 1 1\nbic none\ndegree 0 1 1\ncomplete no\nbijective no\n"
unfolding parity dot affine bit ones_within ones sum_below one_if count_below xor_below list_from list_below each every keep largest_below distinct agreement distance autocorrelation changes coefficient degree column component components best first_least first_largest first limit_checks pairs_of pairs nonlinearity difference cell cells_of cells largest_cell shifts at_most changes_of measured box_autocorrelation imbalance dynamic_distance complete distance_checks degrees box_degree bijective row_at file_rows read_checks file_checks file_found text.decimal_digits spaced line yes_or_no outcome_of until_refused sheet_limit sheet_lines file_reply sheet_text
zero_sheet = refl

pub bit_sheet : sheet_text bit_file ≡ bytes "box 1 1\nnonlinearity 0 1 1 0 1\nxor 2 1 1\nautocorrelation 2 1 1 1\nsac 1 1 1\nbic none\ndegree 1 1 1\ncomplete yes\nbijective yes\n"
unfolding parity dot affine bit ones_within ones sum_below one_if count_below xor_below list_from list_below each every keep largest_below distinct agreement distance autocorrelation changes coefficient degree column component components best first_least first_largest first limit_checks pairs_of pairs nonlinearity difference cell cells_of cells largest_cell shifts at_most changes_of measured box_autocorrelation imbalance dynamic_distance complete distance_checks degrees box_degree bijective row_at file_rows read_checks file_checks file_found text.decimal_digits spaced line yes_or_no outcome_of until_refused sheet_limit sheet_lines file_reply sheet_text
bit_sheet = refl

-- The limit is m up to 16 outputs, and 4 above.
pub limit_of_sixteen : sheet_limit 16 ≡ 16
unfolding sheet_limit
limit_of_sixteen = refl

pub limit_of_seventeen : sheet_limit 17 ≡ 4
unfolding sheet_limit
limit_of_seventeen = refl
