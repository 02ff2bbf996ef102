-- What a call says or leaves, as its contract has it: what the table of worked cases asks.
use Rattle.std.specs.Prelude.{ℕ, ◌^◌, ◌≡◌, List, [], ◌∷◌, ℤ, length}
use Rattle.boolean.specs.Sums.{list_below}
use Rattle.boolean.specs.Functions.{at, value_at, spectrum, inverse, normal_form}
use Rattle.refusals.specs.Table.{Reply, first, reply_after, after, table_call_checks}
use Rattle.walsh.specs.Calls.{inverse_checks}
use Rattle.linear.specs.Nonlinearity.{nonlinearity_reply}
use Rattle.columns.specs.Addition.{addition_checks, added_rows}
use Rattle.rounds.specs.Round.{Summand, sum_reply}
use Rattle.swaps.specs.Swaps.{raising_reply}
use Rattle.differential.specs.XorTable.{xor_row, largest_cells}
use Rattle.differential.specs.Calls.{row_checks, list_checks, list_after, largest_cell_reply}
use Rattle.avalanche.specs.Calls.{distance_reply, autocorrelation_reply, complete_reply}
use Rattle.algebraic.specs.Calls.{box_degree_reply, bijective_reply}
use Rattle.constructions.specs.Enlargement.{enlarged_table, enlarged_rows}
use Rattle.constructions.specs.BentForm.{bent_table}
use Rattle.constructions.specs.Calls.{column_checks, enlarge_checks, bent_checks}
use Rattle.boxfile.specs.File.{file_checks, file_rows, write_checks, file_of}
use Rattle.packing.specs.Packing.{pack_checks, packed, unpack_checks, unpacked}
use Rattle.texts.specs.Text.{numeral}
use Rattle.sheet.specs.Sheet.{sheet_limit, sheet_text}
use Rattle.catalogue.specs.Calls.{check_reply, fetch_reply, add_checks, gap_for, gap_index, added}
use Rattle.catalogue.specs.Calls.{catalogue_checks, index_checks, removed, compacted}
use Rattle.nearest.specs.NearestPairs.{nearest_pairs}
use Rattle.nearest.specs.Calls.{pairs_checks}
use Rattle.design.specs.Model as design
use Rattle.server.specs.Model as server

-- what a call says: its reply, or the final content of an array that it was lent
pub data CallOutcome : Type 0 where
  says : Reply → CallOutcome
  holds : List ℕ → CallOutcome
  holds_signed : List ℤ → CallOutcome

infix 4 ◌is◌
-- a line of the table: what is asked, and what the document prints
pub data Case : Type 0 where
  ◌is◌ : (asked printed : CallOutcome) → Case

-- every line of a table is right: what is asked is what the document prints
abbrev pub Right : List Case → Type 0
Right [] = Unit {0}
Right ((asked is printed) ∷ table) = (asked ≡ printed) × Right table

-- ---- the measures of a box; i is the limit on combinations
abbrev pub nonlinearity_of : (n m : ℕ) (rows : List ℕ) (i : ℕ) → CallOutcome
nonlinearity_of n m rows i = says (nonlinearity_reply n m rows i)

abbrev pub autocorrelation_of : (n m : ℕ) (rows : List ℕ) (i : ℕ) → CallOutcome
autocorrelation_of n m rows i = says (autocorrelation_reply n m rows i)

abbrev pub degree_outcome : (n m : ℕ) (rows : List ℕ) (i : ℕ) → CallOutcome
degree_outcome n m rows i = says (box_degree_reply n m rows i)

abbrev pub distance_outcome : (n m : ℕ) (rows : List ℕ) (i j : ℕ) → CallOutcome
distance_outcome n m rows i j = says (distance_reply n m rows i j)

abbrev pub cell_outcome : (n m : ℕ) (rows : List ℕ) → CallOutcome
cell_outcome n m rows = says (largest_cell_reply n m rows)

-- (an XOR row is written to an array with so much room)
abbrev pub row_reply : (n m : ℕ) (rows : List ℕ) (a room : ℕ) → CallOutcome
row_reply n m rows a room = says (reply_after (first (row_checks n m rows a room)) [])

abbrev pub complete_of : (n m : ℕ) (rows : List ℕ) → CallOutcome
complete_of n m rows = says (complete_reply n m rows)

-- ---- a spectrum and its inverse; `old` is what stands in the written array before the call, and `room` how long it is
abbrev pub spectrum_of : (n : ℕ) (table : List ℕ) (old : List ℤ) → CallOutcome
spectrum_of n table old = holds_signed (after (first (table_call_checks n table (length old))) (spectrum n (at table)) old)

abbrev pub spectrum_reply : (n : ℕ) (table : List ℕ) (room : ℕ) → CallOutcome
spectrum_reply n table room = says (reply_after (first (table_call_checks n table room)) [])

abbrev pub inverse_reply : (n : ℕ) (values : List ℤ) (old : List ℕ) → CallOutcome
inverse_reply n values old = says (reply_after (first (inverse_checks n values (length old))) [])

abbrev pub inverse_of : (n : ℕ) (values : List ℤ) (old : List ℕ) → CallOutcome
inverse_of n values old =
    holds (after (first (inverse_checks n values (length old))) (list_below (2 ^ n) (λ x. inverse n (value_at values) x)) old)

-- ---- boxes made from boxes
abbrev pub column_of : (n : ℕ) (table : List ℕ) (k a : ℕ) (old : List ℕ) → List ℕ
column_of n table k a old = after (first (column_checks n table k a (length old))) (enlarged_table n table k a) old

abbrev pub column_reply : (n : ℕ) (table : List ℕ) (k a : ℕ) (old : List ℕ) → CallOutcome
column_reply n table k a old = says (reply_after (first (column_checks n table k a (length old))) [])

abbrev pub enlarged_box_of : (n : ℕ) (rows table : List ℕ) (k : ℕ) (old : List ℕ) → List ℕ
enlarged_box_of n rows table k old = after (first (enlarge_checks n rows table k (length old))) (enlarged_rows n rows table k) old

abbrev pub box_reply : (n : ℕ) (rows table : List ℕ) (k : ℕ) (old : List ℕ) → CallOutcome
box_reply n rows table k old = says (reply_after (first (enlarge_checks n rows table k (length old))) [])

abbrev pub bent_of : (n : ℕ) (permutation table old : List ℕ) → List ℕ
bent_of n permutation table old =
    after (first (bent_checks n permutation table (length old))) (bent_table n permutation table) old

abbrev pub bent_reply : (n : ℕ) (permutation table old : List ℕ) → CallOutcome
bent_reply n permutation table old = says (reply_after (first (bent_checks n permutation table (length old))) [])

abbrev pub addition_reply : (n m : ℕ) (rows : List ℕ) (j w b : ℕ) (old : List ℕ) → CallOutcome
addition_reply n m rows j w b old = says (reply_after (first (addition_checks n m rows j w b (length old))) [])

abbrev pub addition_of : (n m : ℕ) (rows : List ℕ) (j w b : ℕ) (old : List ℕ) → CallOutcome
addition_of n m rows j w b old = holds (after (first (addition_checks n m rows j w b (length old))) (added_rows j w b rows) old)

-- ---- the later calls: a sum of the first `count` of four boxes, the raising swap, a catalogue, a design and a server
abbrev pub sum_of : (count : ℕ) (handed : List Summand) (i : ℕ) → CallOutcome
sum_of count handed i = says (sum_reply count handed i)

abbrev pub raising_of : (n m : ℕ) (rows : List ℕ) → CallOutcome
raising_of n m rows = says (raising_reply n m rows)

abbrev pub check_of : (catalogue : List ℕ) → CallOutcome
check_of catalogue = says (check_reply catalogue)

abbrev pub mark_reply : (s : design.DesignState) (k : ℕ) → CallOutcome
mark_reply s k = says (reply_after (first (design.mark_checks s k)) [])

abbrev pub return_reply : (s : design.DesignState) (k : ℕ) → CallOutcome
return_reply s k = says (reply_after (first (design.return_checks s k)) [])

abbrev pub swap_reply : (s : design.DesignState) (x y : ℕ) → CallOutcome
swap_reply s x y = says (reply_after (first (design.swap_checks s x y)) [])

abbrev pub design_add_reply : (s : design.DesignState) (j w b : ℕ) → CallOutcome
design_add_reply s j w b = says (reply_after (first (design.design_add_checks s j w b)) [])

abbrev pub put_reply : (s : server.ServerState) (p n m : ℕ) (rows : List ℕ) → CallOutcome
put_reply s p n m rows = says (reply_after (first (server.put_checks s p n m rows)) [])

abbrev pub withdraw_reply : (s : server.ServerState) (p : ℕ) → CallOutcome
withdraw_reply s p = says (reply_after (first (server.held_checks s p)) [])

-- ---- what the other calls write; `old` is what stands in the written array before the call
abbrev pub row_of : (n m : ℕ) (rows : List ℕ) (a : ℕ) (old : List ℕ) → CallOutcome
row_of n m rows a old = holds (after (first (row_checks n m rows a (length old))) (xor_row n m rows a) old)

abbrev pub cells_reply : (n m : ℕ) (rows old : List ℕ) → CallOutcome
cells_reply n m rows old = says (reply_after (first (list_checks n m rows (length old))) (length (largest_cells n m rows) ∷ []))

abbrev pub cells_listed : (n m : ℕ) (rows old : List ℕ) → CallOutcome
cells_listed n m rows old = holds (after (first (list_checks n m rows (length old))) (list_after (largest_cells n m rows) old) old)

abbrev pub form_of : (n : ℕ) (table old : List ℕ) → CallOutcome
form_of n table old = holds (after (first (table_call_checks n table (length old))) (normal_form n (at table)) old)

abbrev pub bijective_of : (n m : ℕ) (rows : List ℕ) → CallOutcome
bijective_of n m rows = says (bijective_reply n m rows)

-- ---- box files and packed columns
abbrev pub read_reply : (file old : List ℕ) → CallOutcome
read_reply file old = says (reply_after (first (file_checks file (length old))) (at file 0 ∷ at file 1 ∷ []))

abbrev pub read_of : (file old : List ℕ) → CallOutcome
read_of file old = holds (after (first (file_checks file (length old))) (file_rows file (at file 0)) old)

abbrev pub written_of : (n m : ℕ) (rows old : List ℕ) → CallOutcome
written_of n m rows old = holds (after (first (write_checks n m rows (length old))) (file_of n m rows) old)

abbrev pub pack_reply : (n m : ℕ) (rows old : List ℕ) → CallOutcome
pack_reply n m rows old = says (reply_after (first (pack_checks n m rows (length old))) [])

abbrev pub packed_of : (n m : ℕ) (rows old : List ℕ) → CallOutcome
packed_of n m rows old = holds (after (first (pack_checks n m rows (length old))) (packed n m rows) old)

abbrev pub unpack_reply : (n m : ℕ) (bytes old : List ℕ) → CallOutcome
unpack_reply n m bytes old = says (reply_after (first (unpack_checks n m bytes (length old))) [])

abbrev pub unpacked_of : (n m : ℕ) (bytes old : List ℕ) → CallOutcome
unpacked_of n m bytes old = holds (after (first (unpack_checks n m bytes (length old))) (unpacked n m bytes) old)

-- ---- the sheet of a file, its limit on combinations with m outputs, and a number as text
abbrev pub sheet_of : (file : List ℕ) → CallOutcome
sheet_of file = holds (sheet_text file)

abbrev pub limit_of : (m : ℕ) → CallOutcome
limit_of m = holds (sheet_limit m ∷ [])

abbrev pub numeral_of : (figure : ℕ) → CallOutcome
numeral_of figure = holds (numeral figure)

-- ---- a catalogue: fetching, and what adding says and leaves
abbrev pub fetch_of : (catalogue : List ℕ) (index : ℕ) → CallOutcome
fetch_of catalogue index = says (fetch_reply catalogue index)

abbrev pub add_reply : (catalogue file : List ℕ) → CallOutcome
add_reply catalogue file = says (reply_after (first (add_checks catalogue file)) (gap_index (gap_for catalogue file) ∷ []))

abbrev pub added_of : (catalogue file : List ℕ) → CallOutcome
added_of catalogue file = holds (after (first (add_checks catalogue file)) (added catalogue file) catalogue)

-- what removing and compacting leave
abbrev pub removed_of : (catalogue : List ℕ) (index : ℕ) → CallOutcome
removed_of catalogue index = holds (after (first (index_checks catalogue index)) (removed catalogue index) catalogue)

abbrev pub compacted_of : (catalogue : List ℕ) → CallOutcome
compacted_of catalogue = holds (after (first (catalogue_checks catalogue)) (compacted catalogue) catalogue)

-- ---- all nearest pairs within the limit i
abbrev pub nearest_reply : (n m : ℕ) (rows : List ℕ) (i : ℕ) (old : List ℕ) → CallOutcome
nearest_reply n m rows i old =
    says (reply_after (first (pairs_checks n m rows i (length old))) (length (nearest_pairs n m rows i) ∷ []))

abbrev pub nearest_listed : (n m : ℕ) (rows : List ℕ) (i : ℕ) (old : List ℕ) → CallOutcome
nearest_listed n m rows i old =
    holds (after (first (pairs_checks n m rows i (length old))) (list_after (nearest_pairs n m rows i) old) old)
