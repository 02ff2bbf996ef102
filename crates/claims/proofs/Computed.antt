-- Document 01: "Proved in a single theorem over a table of these". Each line is computed over the definitions that the contracts cite, but
-- for the long catalogues, which have a law.
use mathlib.Core.Path.{refl, ap}
use mathlib.Core.List.{List, [], ◌∷◌, ◌++◌}
use native.Mathlib.Omega.{arith}
use lib.Count.{ones, ones_in}
use Rattle.boolean.specs.Bits.{parity, dot, affine, bit, ones_within}
use Rattle.boolean.specs.Sums.{sum_below, total_below, one_if, count_below, xor_below, list_from, list_below, each, every, keep, largest_below, distinct, first_of}
use Rattle.boolean.specs.Functions.{agreement, approximation, spectrum, distance, autocorrelation, changes, coefficient, degree, column}
use Rattle.boolean.specs.Functions.{component, components, sign, transform, sign_bit, inverse, is_spectrum, swapped, normal_form}
use Rattle.boolean.specs.Selection.{best, first_least, first_largest}
use Rattle.refusals.specs.Table.{first, limit_checks, table_call_checks}
use Rattle.walsh.specs.Calls.{inverse_lengths, function_check, inverse_checks}
use Rattle.linear.specs.Nonlinearity.{pairs_of, pairs, nonlinearity}
use Rattle.columns.specs.Addition.{added_row, added_rows, addition_checks}
use Rattle.rounds.specs.Round.{inputs_of, sum_at, sum_rows, masks_of_inputs, joined, sum_pairs_of, sum_pairs, sum_nonlinearity, sum_checks}
use Rattle.swaps.specs.Swaps.{swap_at, swaps_from, swaps_by, swaps, raises, raised}
use Rattle.differential.specs.XorTable.{difference, cell, xor_row, cells_of, cells, largest_cell, largest_cells}
use Rattle.differential.specs.Calls.{row_checks, list_checks}
use Rattle.avalanche.specs.Avalanche.{shifts, at_most, measured, box_autocorrelation, imbalance, dynamic_distance, complete}
use Rattle.avalanche.specs.Calls.{distance_checks}
use Rattle.algebraic.specs.Algebraic.{degrees, box_degree, bijective}
use Rattle.constructions.specs.Enlargement.{enlarged, enlarged_table, enlarged_rows}
use Rattle.constructions.specs.BentForm.{bent_form, bent_table, is_permutation}
use Rattle.constructions.specs.Calls.{column_checks, enlarge_checks, bent_checks}
use Rattle.boxfile.specs.File.{row_at, file_rows, read_checks, file_checks, file_found, row_bytes, file_of, write_checks}
use Rattle.packing.specs.Packing.{column_bytes, packed_byte, packed, packed_value, unpacked_row, unpacked, used_bits, pack_checks, unpack_checks}
use Rattle.texts.specs.Text.{decimal_digits, spaced, line}
use Rattle.sheet.specs.Sheet.{sheet_limit, file_reply, sheet_text}
use Rattle.sheet.proofs.Example.{zero_sheet, bit_sheet}
use Rattle.catalogue.specs.Format.{word, word_at, accepted, count, place_at, places, records, stands, stand, valid, place_bytes, directory, body, build}
use Rattle.catalogue.specs.Calls.{catalogue_checks, index_checks, record_at, lowest, gap_for, offered_checks, add_checks, without, without_gaps}
use Rattle.nearest.specs.NearestPairs.{nearest_pairs}
use Rattle.nearest.specs.Calls.{pairs_checks}
use Rattle.design.specs.Model as design
use Rattle.server.specs.Model as server
use Rattle.claims.specs.Outcomes.{Case, says, holds, ◌is◌, Right}
use Rattle.claims.specs.Worked.{cases, bounds, later_bounds, length_bounds, table_cases, byte_cases, sheet_cases, record_cases, tied_cases, bounds_table, content_table, worked_table}
use Rattle.claims.proofs.Lengths.{zeros_taken, zeros_too_few, zeros_too_many}

-- two tables, one after the other
joined_right : (lines rest : List Case) → Right lines → Right rest → Right (lines ++ rest)
joined_right [] rest p q = q
joined_right ((asked is printed) ∷ lines) rest p q = (p.0, joined_right lines rest p.1 q)

cases_right : Right cases
unfolding parity dot affine bit ones_within ones ones_in sum_below one_if count_below xor_below list_from list_below each every keep largest_below distinct agreement approximation spectrum distance autocorrelation changes coefficient degree column component components sign transform sign_bit inverse is_spectrum swapped best first_least first_largest first limit_checks table_call_checks inverse_lengths function_check inverse_checks pairs_of pairs nonlinearity difference cell cells_of cells largest_cell row_checks shifts at_most measured box_autocorrelation imbalance dynamic_distance complete distance_checks degrees box_degree enlarged enlarged_table enlarged_rows bent_form bent_table is_permutation column_checks enlarge_checks bent_checks added_row added_rows addition_checks
cases_right =
    (refl, (refl, (refl, (refl, (refl, (refl, (refl, (refl, (refl, (refl, (refl, (refl, (refl, (refl, (refl, (refl, (refl, (refl, (refl, (refl, tt))))))))))))))))))))

bounds_right : Right bounds
unfolding parity dot affine bit ones_within ones ones_in sum_below one_if count_below xor_below list_from list_below each every keep largest_below distinct agreement approximation spectrum distance autocorrelation changes coefficient degree column component components sign transform sign_bit inverse is_spectrum swapped best first_least first_largest first limit_checks table_call_checks inverse_lengths function_check inverse_checks pairs_of pairs nonlinearity difference cell cells_of cells largest_cell row_checks shifts at_most measured box_autocorrelation imbalance dynamic_distance complete distance_checks degrees box_degree enlarged enlarged_table enlarged_rows bent_form bent_table is_permutation column_checks enlarge_checks bent_checks added_row added_rows addition_checks
bounds_right =
    (refl, (refl, (refl, (refl, (refl, (refl, (refl, (refl, (refl, (refl, (refl, (refl, (refl, (refl, (refl, (refl, (refl, (refl, (refl, (refl, (refl, (refl, (refl, (refl, (refl, (refl, (refl, (refl, (refl, (refl, (refl, (refl, (refl, (refl, (refl, (refl, (refl, (refl, (refl, (refl, (refl, (refl, (refl, (refl, (refl, (refl, (refl, (refl, (refl, (refl, (refl, (refl, (refl, (refl, (refl, (refl, (refl, (refl, (refl, (refl, (refl, (refl, (refl, (refl, (refl, (refl, (refl, (refl, (refl, (refl, (refl, (refl, (refl, (refl, (refl, (refl, (refl, (refl, (refl, tt)))))))))))))))))))))))))))))))))))))))))))))))))))))))))))))))))))))))))))))))

later_right : Right later_bounds
unfolding parity dot affine ones ones_in one_if count_below list_from list_below each every keep distance component components swapped best first_least first pairs_of pairs nonlinearity inputs_of sum_at sum_rows masks_of_inputs joined sum_pairs_of sum_pairs sum_nonlinearity sum_checks swap_at swaps_from swaps_by swaps raises first_of raised design.new_design design.set_mark design.mark_checks design.return_checks design.swap_checks design.design_add_checks server.start server.put server.put_checks server.held_checks server.analysis_of server.among server.examined_of
later_right =
    (refl, (refl, (refl, (refl, (refl, (refl, (refl, (refl, (refl, (refl, (refl, (refl, (refl, (refl, (refl, (refl, (refl, (refl, (refl, (refl, (refl, (refl, (refl, (refl, (refl, (refl, (refl, (refl, (refl, (refl, (refl, (refl, (refl, (refl, (refl, (refl, (refl, (refl, (refl, tt)))))))))))))))))))))))))))))))))))))))

lengths_right : Right length_bounds
lengths_right =
    let few = ap says (zeros_too_few 257 (omega arith)) in
    let least = ap says (zeros_taken 258 (omega arith) (omega arith)) in
    let most = ap says (zeros_taken 65535 (omega arith) (omega arith)) in
    let many = ap says (zeros_too_many 65536 (omega arith)) in
    (few, (least, (most, (many, tt))))

tables_right : Right table_cases
unfolding parity bit ones_within ones ones_in one_if count_below xor_below list_from list_below each every keep largest_below distinct coefficient degree normal_form component components best first_least first_largest first limit_checks table_call_checks difference cell xor_row cells_of cells largest_cell largest_cells row_checks list_checks degrees box_degree bijective
tables_right =
    (refl, (refl, (refl, (refl, (refl, (refl, (refl, (refl, (refl, (refl, (refl, (refl, (refl, (refl, (refl, (refl, tt))))))))))))))))

bytes_right : Right byte_cases
unfolding bit list_from list_below each every total_below column first row_at file_rows read_checks file_checks row_bytes file_of write_checks column_bytes packed_byte packed packed_value unpacked_row unpacked used_bits pack_checks unpack_checks
bytes_right =
    (refl, (refl, (refl, (refl, (refl, (refl, (refl, (refl, (refl, (refl, (refl, (refl, (refl, (refl, (refl, (refl, (refl, (refl, (refl, (refl, (refl, (refl, (refl, (refl, (refl, (refl, (refl, tt)))))))))))))))))))))))))))

sheets_right : Right sheet_cases
unfolding sheet_text file_reply file_found file_checks decimal_digits line spaced each sheet_limit first
sheets_right =
    (ap holds zero_sheet, (ap holds bit_sheet, (refl, (refl, (refl, (refl, (refl, (refl, (refl, tt)))))))))

records_right : Right record_cases
unfolding valid count places place_at word_at list_below list_from stand stands accepted file_found file_checks read_checks file_rows row_at first every catalogue_checks index_checks record_at records offered_checks add_checks gap_for lowest build directory body word place_bytes each
records_right =
    (refl, (refl, (refl, (refl, (refl, (refl, (refl, (refl, (refl, (refl, (refl, (refl, (refl, tt)))))))))))))

bounds_table_right : Right bounds_table
bounds_table_right =
    joined_right cases (bounds ++ (later_bounds ++ length_bounds)) cases_right
    (joined_right bounds (later_bounds ++ length_bounds) bounds_right (joined_right later_bounds length_bounds later_right lengths_right))

content_table_right : Right content_table
content_table_right =
    joined_right table_cases (byte_cases ++ (sheet_cases ++ record_cases)) tables_right
    (joined_right byte_cases (sheet_cases ++ record_cases) bytes_right (joined_right sheet_cases record_cases sheets_right records_right))

tied_right : Right tied_cases
unfolding parity dot affine ones ones_in one_if count_below list_from list_below each every keep distance component components best first_least first limit_checks pairs_of pairs nonlinearity nearest_pairs pairs_checks valid count places place_at word_at stand stands accepted file_found file_checks read_checks file_rows row_at catalogue_checks index_checks records without without_gaps build directory body word place_bytes
tied_right =
    (refl, (refl, (refl, (refl, (refl, (refl, (refl, (refl, (refl, (refl, (refl, (refl, (refl, (refl, (refl, tt)))))))))))))))

pub table_right : Right worked_table
table_right =
    joined_right bounds_table (content_table ++ tied_cases) bounds_table_right (joined_right content_table tied_cases content_table_right tied_right)
