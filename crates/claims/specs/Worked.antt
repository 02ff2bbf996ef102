-- Document 01's proved cases, with the limits and the later calls of document 02: a table. The theorem over it is `worked` (proofs/Worked).
use Rattle.std.specs.Prelude.{ℕ, ◌+◌, ◌*◌, ◌^◌, List, [], ◌∷◌, ◌++◌, pos, negsuc, drop, replicate}
use Rattle.boolean.specs.Sums.{list_below}
use Rattle.refusals.specs.Table.{figures, refusal}
use Rattle.rounds.specs.Round.{Summand}
use Rattle.texts.specs.Text.{bytes}
use Rattle.sheet.specs.Statements.{zero_file, bit_file}
use Rattle.catalogue.specs.Format.{build}
use Rattle.catalogue.specs.Statements.{small_file, long_file, behind_places, two_records}
use Rattle.design.specs.Model as design
use Rattle.server.specs.Model as server
use Rattle.claims.specs.Outcomes.{Case, says, holds, holds_signed, ◌is◌}
use Rattle.claims.specs.Outcomes.{nonlinearity_of, autocorrelation_of, degree_outcome}
use Rattle.claims.specs.Outcomes.{distance_outcome, cell_outcome, row_reply, complete_of}
use Rattle.claims.specs.Outcomes.{spectrum_of, spectrum_reply, inverse_reply, inverse_of, column_of, column_reply}
use Rattle.claims.specs.Outcomes.{enlarged_box_of, box_reply, bent_of, bent_reply}
use Rattle.claims.specs.Outcomes.{addition_reply, addition_of, sum_of, raising_of, check_of}
use Rattle.claims.specs.Outcomes.{mark_reply, return_reply, swap_reply, design_add_reply, put_reply, withdraw_reply}
use Rattle.claims.specs.Outcomes.{row_of, cells_reply, cells_listed, form_of, bijective_of, read_reply, read_of, written_of}
use Rattle.claims.specs.Outcomes.{pack_reply, packed_of, unpack_reply, unpacked_of, sheet_of, limit_of, numeral_of}
use Rattle.claims.specs.Outcomes.{fetch_of, add_reply, added_of, removed_of, compacted_of, nearest_reply, nearest_listed}

-- what stands in an array before a call
abbrev pub sixteen : List ℕ
sixteen = 9 ∷ 9 ∷ 9 ∷ 9 ∷ 9 ∷ 9 ∷ 9 ∷ 9 ∷ 9 ∷ 9 ∷ 9 ∷ 9 ∷ 9 ∷ 9 ∷ 9 ∷ 9 ∷ []

-- the boxes and functions of cases 8, 9 and 10
abbrev pub case8 : List ℕ
case8 = 1 ∷ 1 ∷ 0 ∷ 0 ∷ 0 ∷ 1 ∷ 0 ∷ 1 ∷ []

abbrev pub case9_rows : List ℕ
case9_rows = 3 ∷ 1 ∷ 4 ∷ 0 ∷ 2 ∷ 5 ∷ 6 ∷ 7 ∷ []

abbrev pub case9_table : List ℕ
case9_table = 1 ∷ 0 ∷ 0 ∷ 0 ∷ 1 ∷ 1 ∷ 0 ∷ 1 ∷ []

abbrev pub case9 : List ℕ
case9 = 11 ∷ 1 ∷ 4 ∷ 0 ∷ 10 ∷ 13 ∷ 6 ∷ 15 ∷ 9 ∷ 3 ∷ 8 ∷ 12 ∷ 5 ∷ 2 ∷ 7 ∷ 14 ∷ []

abbrev pub case10 : List ℕ
case10 = 0 ∷ 0 ∷ 0 ∷ 0 ∷ 0 ∷ 1 ∷ 0 ∷ 1 ∷ 0 ∷ 0 ∷ 1 ∷ 1 ∷ 0 ∷ 1 ∷ 1 ∷ 0 ∷ []

abbrev pub cases : List Case
cases =
    -- 1
    (nonlinearity_of 1 1 (0 ∷ 1 ∷ []) 1 is says (figures (0 ∷ 1 ∷ 1 ∷ 0 ∷ [])))
    ∷ (distance_outcome 1 1 (0 ∷ 1 ∷ []) 1 1 is says (figures (1 ∷ 1 ∷ 1 ∷ [])))
    ∷ (degree_outcome 1 1 (0 ∷ 1 ∷ []) 1 is says (figures (1 ∷ 1 ∷ [])))
    -- 2
    ∷ (nonlinearity_of 1 1 (0 ∷ 0 ∷ []) 1 is says (figures (0 ∷ 1 ∷ 0 ∷ 0 ∷ [])))
    ∷ (degree_outcome 1 1 (0 ∷ 0 ∷ []) 1 is says (figures (0 ∷ 1 ∷ [])))
    -- 3
    ∷ (spectrum_of 2 (0 ∷ 0 ∷ 0 ∷ 1 ∷ []) (pos 0 ∷ pos 0 ∷ pos 0 ∷ pos 0 ∷ [])
    is holds_signed (pos 1 ∷ pos 1 ∷ pos 1 ∷ negsuc 0 ∷ []))
    ∷ (nonlinearity_of 2 1 (0 ∷ 0 ∷ 0 ∷ 1 ∷ []) 1 is says (figures (1 ∷ 1 ∷ 0 ∷ 0 ∷ [])))
    ∷ (distance_outcome 2 1 (0 ∷ 0 ∷ 0 ∷ 1 ∷ []) 1 2 is says (figures (0 ∷ 1 ∷ 1 ∷ [])))
    -- 4
    ∷ (inverse_of 2 (pos 1 ∷ pos 1 ∷ pos 1 ∷ negsuc 0 ∷ []) (9 ∷ 9 ∷ 9 ∷ 9 ∷ []) is holds (0 ∷ 0 ∷ 0 ∷ 1 ∷ []))
    -- 5
    ∷ (inverse_reply 2 (pos 1 ∷ pos 1 ∷ pos 1 ∷ pos 1 ∷ []) (9 ∷ 9 ∷ 9 ∷ 9 ∷ []) is says (refusal 8))
    ∷ (inverse_of 2 (pos 1 ∷ pos 1 ∷ pos 1 ∷ pos 1 ∷ []) (9 ∷ 9 ∷ 9 ∷ 9 ∷ []) is holds (9 ∷ 9 ∷ 9 ∷ 9 ∷ []))
    -- 6
    ∷ (inverse_reply 1 (pos 0 ∷ pos 0 ∷ []) (9 ∷ 9 ∷ []) is says (refusal 8))
    -- 7
    ∷ (nonlinearity_of 2 2 (0 ∷ 1 ∷ 2 ∷ 3 ∷ []) 2 is says (figures (0 ∷ 1 ∷ 1 ∷ 0 ∷ [])))
    ∷ (cell_outcome 2 2 (0 ∷ 1 ∷ 2 ∷ 3 ∷ []) is says (figures (4 ∷ 1 ∷ 1 ∷ [])))
    ∷ (autocorrelation_of 2 2 (0 ∷ 1 ∷ 2 ∷ 3 ∷ []) 2 is says (figures (4 ∷ 1 ∷ 1 ∷ [])))
    -- 8: the upper half
    ∷ (holds (drop 8 (column_of 3 case8 1 1 sixteen)) is holds (0 ∷ 0 ∷ 1 ∷ 1 ∷ 0 ∷ 1 ∷ 0 ∷ 1 ∷ []))
    -- 9
    ∷ (holds (enlarged_box_of 3 case9_rows case9_table 1 sixteen) is holds case9)
    ∷ (nonlinearity_of 4 4 case9 4 is says (figures (0 ∷ 12 ∷ 1 ∷ 1 ∷ [])))
    -- 10
    ∷ (holds (bent_of 4 (0 ∷ 1 ∷ 2 ∷ 3 ∷ []) (0 ∷ 0 ∷ 0 ∷ 0 ∷ []) sixteen) is holds case10)
    ∷ (nonlinearity_of 4 1 case10 1 is says (figures (6 ∷ 1 ∷ 0 ∷ 0 ∷ [])))
    ∷ []

-- a truth table of n inputs that is 0 everywhere, and the rows 0, 1, .., 2^n − 1
abbrev pub zeros : ℕ → List ℕ
zeros n = list_below (2 ^ n) (λ x. 0)

abbrev pub identity : ℕ → List ℕ
identity n = list_below (2 ^ n) (λ x. x)

-- each bound of document 01 from both sides, as document 02 has it
abbrev pub bounds : List Case
bounds =
    -- the widths, and which number comes first
    (nonlinearity_of 0 1 (0 ∷ []) 1 is says (refusal 1))
    ∷ (nonlinearity_of 9 33 [] 0 is says (refusal 1))
    ∷ (nonlinearity_of 8 0 [] 0 is says (refusal 2))
    ∷ (nonlinearity_of 8 33 [] 0 is says (refusal 2))
    ∷ (nonlinearity_of 8 32 [] 0 is says (refusal 3))
    ∷ (complete_of 1 17 (0 ∷ 131071 ∷ []) is says (figures (1 ∷ [])))
    ∷ (complete_of 1 32 (0 ∷ 4294967295 ∷ []) is says (figures (1 ∷ [])))
    ∷ (complete_of 1 33 (0 ∷ 4294967295 ∷ []) is says (refusal 2))
    -- a row of the XOR table is given up to 16 outputs
    ∷ (row_reply 1 16 (0 ∷ 65535 ∷ []) 1 65536 is says (figures []))
    ∷ (row_reply 1 17 (0 ∷ 65535 ∷ []) 1 131072 is says (refusal 2))
    -- the rows, and then the limit
    ∷ (nonlinearity_of 1 3 (7 ∷ 7 ∷ []) 3 is says (figures (0 ∷ 1 ∷ 0 ∷ 1 ∷ [])))
    ∷ (nonlinearity_of 1 3 (7 ∷ 8 ∷ []) 3 is says (refusal 4))
    ∷ (nonlinearity_of 1 3 (7 ∷ 8 ∷ []) 0 is says (refusal 4))
    ∷ (nonlinearity_of 1 3 (7 ∷ 7 ∷ []) 0 is says (refusal 6))
    ∷ (nonlinearity_of 1 3 (7 ∷ 7 ∷ []) 1 is says (figures (0 ∷ 1 ∷ 0 ∷ 1 ∷ [])))
    ∷ (nonlinearity_of 1 3 (7 ∷ 7 ∷ []) 4 is says (refusal 6))
    ∷ (nonlinearity_of 1 32 (0 ∷ 4294967295 ∷ []) 33 is says (refusal 6))
    ∷ (autocorrelation_of 1 3 (7 ∷ 7 ∷ []) 0 is says (refusal 6))
    ∷ (autocorrelation_of 1 3 (7 ∷ 7 ∷ []) 3 is says (figures (2 ∷ 1 ∷ 1 ∷ [])))
    ∷ (autocorrelation_of 1 3 (7 ∷ 7 ∷ []) 4 is says (refusal 6))
    ∷ (degree_outcome 1 3 (7 ∷ 7 ∷ []) 0 is says (refusal 6))
    ∷ (degree_outcome 1 3 (7 ∷ 7 ∷ []) 3 is says (figures (0 ∷ 1 ∷ [])))
    ∷ (degree_outcome 1 3 (7 ∷ 7 ∷ []) 4 is says (refusal 6))
    -- both numbers of an order, of a box with one output and two inputs
    ∷ (distance_outcome 1 1 (0 ∷ 1 ∷ []) 2 1 is says (refusal 6))
    ∷ (distance_outcome 2 1 (0 ∷ 0 ∷ 0 ∷ 1 ∷ []) 0 1 is says (refusal 6))
    ∷ (distance_outcome 2 1 (0 ∷ 0 ∷ 0 ∷ 1 ∷ []) 1 0 is says (refusal 6))
    ∷ (distance_outcome 2 1 (0 ∷ 0 ∷ 0 ∷ 1 ∷ []) 1 1 is says (figures (0 ∷ 1 ∷ 1 ∷ [])))
    ∷ (distance_outcome 2 1 (0 ∷ 0 ∷ 0 ∷ 1 ∷ []) 1 2 is says (figures (0 ∷ 1 ∷ 1 ∷ [])))
    ∷ (distance_outcome 2 1 (0 ∷ 0 ∷ 0 ∷ 1 ∷ []) 1 3 is says (refusal 6))
    -- no output of this box is affine, and the combination of both is: the limit 1 leaves it out
    ∷ (nonlinearity_of 2 2 (0 ∷ 2 ∷ 0 ∷ 1 ∷ []) 1 is says (figures (1 ∷ 1 ∷ 0 ∷ 0 ∷ [])))
    ∷ (nonlinearity_of 2 2 (0 ∷ 2 ∷ 0 ∷ 1 ∷ []) 2 is says (figures (0 ∷ 3 ∷ 1 ∷ 0 ∷ [])))
    -- so is the combination of all three outputs of this one, which the limit 2 leaves out
    ∷ (nonlinearity_of 3 3 case9_rows 2 is says (figures (2 ∷ 1 ∷ 1 ∷ 0 ∷ [])))
    ∷ (nonlinearity_of 3 3 case9_rows 3 is says (figures (0 ∷ 7 ∷ 7 ∷ 0 ∷ [])))
    ∷ (degree_outcome 3 3 case9_rows 2 is says (figures (2 ∷ 1 ∷ [])))
    ∷ (degree_outcome 3 3 case9_rows 3 is says (figures (1 ∷ 7 ∷ [])))
    -- fewest outputs first: column 3 of this box is affine, and so are columns 1 and 2 together; c = 4 is preferred to c = 3
    ∷ (nonlinearity_of 2 3 (0 ∷ 2 ∷ 4 ∷ 5 ∷ []) 3 is says (figures (0 ∷ 4 ∷ 2 ∷ 0 ∷ [])))
    ∷ (autocorrelation_of 2 3 (0 ∷ 2 ∷ 4 ∷ 5 ∷ []) 3 is says (figures (4 ∷ 4 ∷ 1 ∷ [])))
    ∷ (distance_outcome 2 3 (0 ∷ 2 ∷ 4 ∷ 5 ∷ []) 3 2 is says (figures (2 ∷ 4 ∷ 1 ∷ [])))
    ∷ (degree_outcome 2 3 (0 ∷ 2 ∷ 4 ∷ 5 ∷ []) 3 is says (figures (1 ∷ 4 ∷ [])))
    -- a truth table: its width, its length, its values, and the written array
    ∷ (spectrum_reply 0 (0 ∷ []) 1 is says (refusal 1))
    ∷ (spectrum_reply 9 (zeros 9) 512 is says (refusal 1))
    ∷ (spectrum_reply 8 (zeros 8) 256 is says (figures []))
    ∷ (spectrum_reply 1 (0 ∷ 2 ∷ 0 ∷ []) 2 is says (refusal 3))
    ∷ (spectrum_reply 1 (0 ∷ 2 ∷ []) 3 is says (refusal 4))
    ∷ (spectrum_reply 1 (0 ∷ 1 ∷ []) 3 is says (refusal 7))
    -- a spectrum's doubled values are no function's
    ∷ (inverse_reply 2 (pos 2 ∷ pos 2 ∷ pos 2 ∷ negsuc 1 ∷ []) (9 ∷ 9 ∷ 9 ∷ 9 ∷ []) is says (refusal 8))
    ∷ (inverse_reply 1 (pos 1 ∷ pos 0 ∷ []) (9 ∷ 9 ∷ []) is says (figures []))
    ∷ (inverse_reply 1 (pos 2 ∷ pos 0 ∷ []) (9 ∷ 9 ∷ []) is says (refusal 8))
    -- enlarging a column: the width, the input, the constant, and the written array
    ∷ (column_reply 7 (zeros 7) 7 0 (zeros 8) is says (figures []))
    ∷ (column_reply 8 (zeros 8) 7 0 (zeros 9) is says (refusal 1))
    ∷ (column_reply 7 (zeros 7) 8 0 (zeros 8) is says (refusal 6))
    ∷ (column_reply 3 case8 3 1 sixteen is says (figures []))
    ∷ (column_reply 3 case8 4 1 sixteen is says (refusal 6))
    ∷ (column_reply 3 case8 3 2 sixteen is says (refusal 6))
    ∷ (column_reply 3 case8 3 1 case8 is says (refusal 7))
    -- enlarging a box: the same, but for the constant
    ∷ (box_reply 7 (identity 7) (zeros 7) 7 (zeros 8) is says (figures []))
    ∷ (box_reply 8 (identity 8) (zeros 8) 7 (zeros 9) is says (refusal 1))
    ∷ (box_reply 7 (identity 7) (zeros 7) 8 (zeros 8) is says (refusal 6))
    ∷ (box_reply 3 case9_rows case9_table 3 sixteen is says (figures []))
    ∷ (box_reply 3 case9_rows case9_table 4 sixteen is says (refusal 6))
    ∷ (box_reply 3 case9_rows case9_table 3 case8 is says (refusal 7))
    -- the bent form: an even width from 2 to 8; then the lengths, 4 for the table before 5 for the permutation, and the written array
    ∷ (bent_reply 0 (0 ∷ []) (0 ∷ []) (9 ∷ []) is says (refusal 1))
    ∷ (bent_reply 2 (1 ∷ 0 ∷ []) (0 ∷ 1 ∷ []) (9 ∷ 9 ∷ 9 ∷ 9 ∷ []) is says (figures []))
    ∷ (bent_reply 3 (1 ∷ 0 ∷ []) (0 ∷ 1 ∷ []) (zeros 3) is says (refusal 1))
    ∷ (bent_reply 8 (identity 4) (zeros 4) (zeros 8) is says (figures []))
    ∷ (bent_reply 10 (identity 5) (zeros 5) (zeros 10) is says (refusal 1))
    ∷ (bent_reply 2 (1 ∷ 0 ∷ 2 ∷ []) (0 ∷ 1 ∷ []) (9 ∷ 9 ∷ 9 ∷ 9 ∷ []) is says (refusal 3))
    ∷ (bent_reply 2 (1 ∷ 1 ∷ []) (0 ∷ 2 ∷ []) (9 ∷ 9 ∷ 9 ∷ 9 ∷ []) is says (refusal 4))
    ∷ (bent_reply 2 (1 ∷ 1 ∷ []) (0 ∷ 1 ∷ []) (9 ∷ 9 ∷ 9 ∷ []) is says (refusal 5))
    ∷ (bent_reply 2 (0 ∷ 2 ∷ []) (0 ∷ 1 ∷ []) (9 ∷ 9 ∷ 9 ∷ []) is says (refusal 5))
    ∷ (bent_reply 2 (1 ∷ 0 ∷ []) (0 ∷ 1 ∷ []) (9 ∷ 9 ∷ 9 ∷ []) is says (refusal 7))
    -- column addition: the column, the mask, the constant, and the written array
    ∷ (addition_reply 2 2 (0 ∷ 1 ∷ 2 ∷ 3 ∷ []) 0 3 1 (9 ∷ 9 ∷ 9 ∷ 9 ∷ []) is says (refusal 6))
    ∷ (addition_reply 2 2 (0 ∷ 1 ∷ 2 ∷ 3 ∷ []) 2 3 1 (9 ∷ 9 ∷ 9 ∷ 9 ∷ []) is says (figures []))
    ∷ (addition_of 2 2 (0 ∷ 1 ∷ 2 ∷ 3 ∷ []) 2 3 1 (9 ∷ 9 ∷ 9 ∷ 9 ∷ []) is holds (2 ∷ 1 ∷ 2 ∷ 1 ∷ []))
    ∷ (addition_reply 2 2 (0 ∷ 1 ∷ 2 ∷ 3 ∷ []) 3 3 1 (9 ∷ 9 ∷ 9 ∷ 9 ∷ []) is says (refusal 6))
    ∷ (addition_of 2 2 (0 ∷ 1 ∷ 2 ∷ 3 ∷ []) 3 3 1 (9 ∷ 9 ∷ 9 ∷ 9 ∷ []) is holds (9 ∷ 9 ∷ 9 ∷ 9 ∷ []))
    ∷ (addition_reply 2 2 (0 ∷ 1 ∷ 2 ∷ 3 ∷ []) 2 4 1 (9 ∷ 9 ∷ 9 ∷ 9 ∷ []) is says (refusal 6))
    ∷ (addition_reply 2 2 (0 ∷ 1 ∷ 2 ∷ 3 ∷ []) 2 3 2 (9 ∷ 9 ∷ 9 ∷ 9 ∷ []) is says (refusal 6))
    ∷ (addition_reply 2 2 (0 ∷ 1 ∷ 2 ∷ 3 ∷ []) 2 3 1 (9 ∷ 9 ∷ 9 ∷ []) is says (refusal 7))
    ∷ []

-- ---- the bounds of document 02's own calls
-- boxes of a sum: one input bit as one output, one input bit as two outputs, and the AND of two input bits
abbrev pub one_bit : Summand
one_bit = record { inputs = 1; outputs = 1; rows = 0 ∷ 1 ∷ [] }

abbrev pub two_outputs : Summand
two_outputs = record { inputs = 1; outputs = 2; rows = 0 ∷ 3 ∷ [] }

abbrev pub conjunction : Summand
conjunction = record { inputs = 2; outputs = 1; rows = 0 ∷ 0 ∷ 0 ∷ 1 ∷ [] }

abbrev pub four_bits : List Summand
four_bits = one_bit ∷ one_bit ∷ one_bit ∷ one_bit ∷ []

-- a design whose mark 16 was set, and a server with a box on place 8
abbrev pub marked_design : design.DesignState
marked_design = design.set_mark (design.new_design 1 1 (0 ∷ 1 ∷ [])) 16

abbrev pub served_server : server.ServerState
served_server = server.put server.start 8 1 1 (0 ∷ 1 ∷ [])

abbrev pub later_bounds : List Case
later_bounds =
    -- one to four boxes are added; then their output widths, and then the limit
    (sum_of 0 four_bits 1 is says (refusal 11))
    ∷ (sum_of 1 four_bits 1 is says (figures (0 ∷ 1 ∷ 1 ∷ 0 ∷ [])))
    ∷ (sum_of 4 four_bits 1 is says (figures (0 ∷ 1 ∷ 1 ∷ 1 ∷ 1 ∷ 1 ∷ 0 ∷ [])))
    ∷ (sum_of 5 four_bits 1 is says (refusal 11))
    ∷ (sum_of 2 (conjunction ∷ conjunction ∷ one_bit ∷ one_bit ∷ []) 1 is says (figures (6 ∷ 1 ∷ 0 ∷ 0 ∷ 0 ∷ [])))
    ∷ (sum_of 2 (one_bit ∷ two_outputs ∷ one_bit ∷ one_bit ∷ []) 0 is says (refusal 12))
    ∷ (sum_of 1 (one_bit ∷ two_outputs ∷ one_bit ∷ one_bit ∷ []) 0 is says (refusal 6))
    ∷ (sum_of 1 (one_bit ∷ two_outputs ∷ one_bit ∷ one_bit ∷ []) 2 is says (refusal 6))
    -- the raising swap: an affine function of three inputs is raised to 2, no swap raises one of two inputs, and eight outputs are taken
    ∷ (raising_of 3 1 (0 ∷ 0 ∷ 0 ∷ 0 ∷ 1 ∷ 1 ∷ 1 ∷ 1 ∷ []) is says (figures (1 ∷ 0 ∷ 4 ∷ 2 ∷ [])))
    -- no single output of this box is affine, and no swap raises their figure; the combination of all three is, and a swap raises its
    ∷ (raising_of 3 3 case9_rows is says (figures (1 ∷ 0 ∷ 1 ∷ 2 ∷ [])))
    ∷ (raising_of 2 1 (0 ∷ 0 ∷ 1 ∷ 1 ∷ []) is says (figures (0 ∷ 0 ∷ 0 ∷ 0 ∷ [])))
    ∷ (raising_of 1 8 (255 ∷ 255 ∷ []) is says (figures (0 ∷ 0 ∷ 0 ∷ 0 ∷ [])))
    ∷ (raising_of 1 9 (255 ∷ 255 ∷ []) is says (refusal 2))
    -- marks 1 to 16; a mark that was never set
    ∷ (mark_reply marked_design 0 is says (refusal 6))
    ∷ (mark_reply marked_design 1 is says (figures []))
    ∷ (mark_reply marked_design 16 is says (figures []))
    ∷ (mark_reply marked_design 17 is says (refusal 6))
    ∷ (return_reply marked_design 0 is says (refusal 6))
    ∷ (return_reply marked_design 1 is says (refusal 17))
    ∷ (return_reply marked_design 16 is says (figures []))
    ∷ (return_reply marked_design 17 is says (refusal 6))
    -- the inputs of a swap; the column, the mask and the constant of an addition
    ∷ (swap_reply marked_design 0 1 is says (figures []))
    ∷ (swap_reply marked_design 0 2 is says (refusal 6))
    ∷ (swap_reply marked_design 2 0 is says (refusal 6))
    ∷ (design_add_reply marked_design 0 1 1 is says (refusal 6))
    ∷ (design_add_reply marked_design 1 1 1 is says (figures []))
    ∷ (design_add_reply marked_design 2 1 1 is says (refusal 6))
    ∷ (design_add_reply marked_design 1 2 1 is says (refusal 6))
    ∷ (design_add_reply marked_design 1 1 2 is says (refusal 6))
    -- places 1 to 8, before the box's checks, and whether a place is taken; at most sixteen outputs
    ∷ (put_reply served_server 0 0 0 [] is says (refusal 18))
    ∷ (put_reply served_server 1 1 16 (0 ∷ 65535 ∷ []) is says (figures []))
    ∷ (put_reply served_server 1 1 17 (0 ∷ 65535 ∷ []) is says (refusal 2))
    ∷ (put_reply server.start 8 1 1 (0 ∷ 1 ∷ []) is says (figures []))
    ∷ (put_reply served_server 8 0 0 [] is says (refusal 19))
    ∷ (put_reply served_server 9 0 0 [] is says (refusal 18))
    ∷ (withdraw_reply served_server 0 is says (refusal 18))
    ∷ (withdraw_reply served_server 1 is says (refusal 19))
    ∷ (withdraw_reply served_server 8 is says (figures []))
    ∷ (withdraw_reply served_server 9 is says (refusal 18))
    ∷ []

-- a catalogue has 258 to 65,535 bytes; zeros are an empty one
abbrev pub length_bounds : List Case
length_bounds =
    (check_of (replicate 257 0) is says (refusal 13))
    ∷ (check_of (replicate 258 0) is says (figures (0 ∷ [])))
    ∷ (check_of (replicate 65535 0) is says (figures (0 ∷ [])))
    ∷ (check_of (replicate 65536 0) is says (refusal 13))
    ∷ []

-- ---- what the calls write, entry by entry
-- nines in an array of eight, and in one of four
abbrev pub eight_nines : List ℕ
eight_nines = 9 ∷ 9 ∷ 9 ∷ 9 ∷ 9 ∷ 9 ∷ 9 ∷ 9 ∷ []

abbrev pub four_nines : List ℕ
four_nines = 9 ∷ 9 ∷ 9 ∷ 9 ∷ []

abbrev pub table_cases : List Case
table_cases =
    -- two rows of the XOR table of document 01's box
    (row_of 3 3 case9_rows 1 eight_nines is holds (0 ∷ 2 ∷ 2 ∷ 0 ∷ 2 ∷ 0 ∷ 0 ∷ 2 ∷ []))
    ∷ (row_of 3 3 case9_rows 3 eight_nines is holds (0 ∷ 0 ∷ 0 ∷ 4 ∷ 0 ∷ 4 ∷ 0 ∷ 0 ∷ []))
    -- the list of the largest cells, a × 2^32 + β: by ascending a, then β; entries past it stay, and a list that is too short is left
    ∷ (cells_reply 2 1 (0 ∷ 0 ∷ 0 ∷ 1 ∷ []) eight_nines is says (figures (6 ∷ [])))
    ∷ (cells_listed 2 1 (0 ∷ 0 ∷ 0 ∷ 1 ∷ []) eight_nines
    is holds (4294967296 ∷ 4294967297 ∷ 8589934592 ∷ 8589934593 ∷ 12884901888 ∷ 12884901889 ∷ 9 ∷ 9 ∷ []))
    ∷ (cells_reply 2 2 (0 ∷ 1 ∷ 2 ∷ 3 ∷ []) (9 ∷ 9 ∷ 9 ∷ []) is says (figures (3 ∷ [])))
    ∷ (cells_listed 2 2 (0 ∷ 1 ∷ 2 ∷ 3 ∷ []) (9 ∷ 9 ∷ 9 ∷ []) is holds (4294967297 ∷ 8589934594 ∷ 12884901891 ∷ []))
    ∷ (cells_reply 2 2 (0 ∷ 1 ∷ 2 ∷ 3 ∷ []) (9 ∷ 9 ∷ []) is says (refusal 9))
    ∷ (cells_listed 2 2 (0 ∷ 1 ∷ 2 ∷ 3 ∷ []) (9 ∷ 9 ∷ []) is holds (9 ∷ 9 ∷ []))
    -- the normal forms of input bit 1, of input bit 2 and of the OR of both
    ∷ (form_of 2 (0 ∷ 1 ∷ 0 ∷ 1 ∷ []) four_nines is holds (0 ∷ 1 ∷ 0 ∷ 0 ∷ []))
    ∷ (form_of 2 (0 ∷ 0 ∷ 1 ∷ 1 ∷ []) four_nines is holds (0 ∷ 0 ∷ 1 ∷ 0 ∷ []))
    ∷ (form_of 2 (0 ∷ 1 ∷ 1 ∷ 1 ∷ []) four_nines is holds (0 ∷ 1 ∷ 1 ∷ 1 ∷ []))
    -- the AND of two of three inputs, and of all three
    ∷ (degree_outcome 3 1 (0 ∷ 0 ∷ 0 ∷ 1 ∷ 0 ∷ 0 ∷ 0 ∷ 1 ∷ []) 1 is says (figures (2 ∷ 1 ∷ [])))
    ∷ (degree_outcome 3 1 (0 ∷ 0 ∷ 0 ∷ 0 ∷ 0 ∷ 0 ∷ 0 ∷ 1 ∷ []) 1 is says (figures (3 ∷ 1 ∷ [])))
    -- bijective; two equal rows; two rows that are not equal, and n is not m
    ∷ (bijective_of 2 2 (1 ∷ 3 ∷ 0 ∷ 2 ∷ []) is says (figures (1 ∷ [])))
    ∷ (bijective_of 2 2 (1 ∷ 3 ∷ 0 ∷ 3 ∷ []) is says (figures (0 ∷ [])))
    ∷ (bijective_of 1 2 (0 ∷ 3 ∷ []) is says (figures (0 ∷ [])))
    ∷ []

-- the rows of three inputs and two outputs: column 1 is 1 at the inputs 0, 1 and 3, column 2 at the input 6 alone
abbrev pub eight_rows : List ℕ
eight_rows = 1 ∷ 1 ∷ 0 ∷ 1 ∷ 0 ∷ 0 ∷ 2 ∷ 0 ∷ []

abbrev pub byte_cases : List Case
byte_cases =
    -- a file's rows have four bytes, low byte first
    (read_reply (1 ∷ 32 ∷ 1 ∷ 2 ∷ 3 ∷ 4 ∷ 5 ∷ 6 ∷ 7 ∷ 8 ∷ []) (9 ∷ 9 ∷ []) is says (figures (1 ∷ 32 ∷ [])))
    ∷ (read_of (1 ∷ 32 ∷ 1 ∷ 2 ∷ 3 ∷ 4 ∷ 5 ∷ 6 ∷ 7 ∷ 8 ∷ []) (9 ∷ 9 ∷ []) is holds (67305985 ∷ 134678021 ∷ []))
    ∷ (written_of 1 32 (67305985 ∷ 134678021 ∷ []) (9 ∷ 9 ∷ eight_nines) is holds (1 ∷ 32 ∷ 1 ∷ 2 ∷ 3 ∷ 4 ∷ 5 ∷ 6 ∷ 7 ∷ 8 ∷ []))
    -- files of no byte, one and two; the widths come before the length
    ∷ (read_reply [] (9 ∷ 9 ∷ []) is says (refusal 10))
    ∷ (read_reply (0 ∷ []) (9 ∷ 9 ∷ []) is says (refusal 10))
    ∷ (read_reply (0 ∷ 1 ∷ []) (9 ∷ 9 ∷ []) is says (refusal 1))
    ∷ (read_reply (1 ∷ 33 ∷ []) (9 ∷ 9 ∷ []) is says (refusal 2))
    ∷ (read_reply (1 ∷ 1 ∷ []) (9 ∷ 9 ∷ []) is says (refusal 10))
    -- a byte too few, as many as needed, one too many; a row that is too large; a written array of another length
    ∷ (read_reply (1 ∷ 1 ∷ 0 ∷ 0 ∷ 0 ∷ 0 ∷ 1 ∷ 0 ∷ 0 ∷ []) (9 ∷ 9 ∷ []) is says (refusal 10))
    ∷ (read_reply (1 ∷ 1 ∷ 0 ∷ 0 ∷ 0 ∷ 0 ∷ 1 ∷ 0 ∷ 0 ∷ 0 ∷ []) (9 ∷ 9 ∷ []) is says (figures (1 ∷ 1 ∷ [])))
    ∷ (read_reply (1 ∷ 1 ∷ 0 ∷ 0 ∷ 0 ∷ 0 ∷ 1 ∷ 0 ∷ 0 ∷ 0 ∷ 0 ∷ []) (9 ∷ 9 ∷ []) is says (refusal 10))
    ∷ (read_reply (1 ∷ 1 ∷ 0 ∷ 0 ∷ 0 ∷ 0 ∷ 2 ∷ 0 ∷ 0 ∷ 0 ∷ []) (9 ∷ []) is says (refusal 4))
    ∷ (read_reply (1 ∷ 1 ∷ 0 ∷ 0 ∷ 0 ∷ 0 ∷ 1 ∷ 0 ∷ 0 ∷ 0 ∷ []) (9 ∷ []) is says (refusal 7))
    -- packed columns: column 1 first, the lowest input in the lowest bit, a byte for a column below three inputs
    ∷ (packed_of 3 2 eight_rows (9 ∷ 9 ∷ []) is holds (11 ∷ 64 ∷ []))
    ∷ (packed_of 1 2 (1 ∷ 2 ∷ []) (9 ∷ 9 ∷ []) is holds (1 ∷ 2 ∷ []))
    ∷ (unpacked_of 3 2 (11 ∷ 64 ∷ []) eight_nines is holds eight_rows)
    ∷ (unpacked_of 1 2 (1 ∷ 2 ∷ []) (9 ∷ 9 ∷ []) is holds (1 ∷ 2 ∷ []))
    -- above three inputs the lower inputs come first
    ∷ (packed_of 4 1 (1 ∷ 0 ∷ 0 ∷ 0 ∷ 0 ∷ 0 ∷ 0 ∷ 0 ∷ 0 ∷ 1 ∷ 0 ∷ 0 ∷ 0 ∷ 0 ∷ 0 ∷ 0 ∷ []) (9 ∷ 9 ∷ []) is holds (1 ∷ 2 ∷ []))
    -- a packed array of another length, where it is written and where it is read
    ∷ (pack_reply 3 2 eight_rows (9 ∷ 9 ∷ 9 ∷ []) is says (refusal 7))
    ∷ (unpack_reply 3 2 (11 ∷ 64 ∷ 0 ∷ []) eight_nines is says (refusal 3))
    -- with one input two bits are used, with two inputs four, and with three inputs all eight
    ∷ (unpack_reply 1 2 (3 ∷ 3 ∷ []) (9 ∷ 9 ∷ []) is says (figures []))
    ∷ (unpack_reply 1 2 (3 ∷ 4 ∷ []) (9 ∷ 9 ∷ []) is says (refusal 16))
    ∷ (unpack_reply 2 1 (15 ∷ []) four_nines is says (figures []))
    ∷ (unpack_reply 2 1 (16 ∷ []) four_nines is says (refusal 16))
    ∷ (unpack_reply 3 1 (255 ∷ []) eight_nines is says (figures []))
    -- 16 is looked for before 7
    ∷ (unpack_reply 1 2 (3 ∷ 4 ∷ []) (9 ∷ []) is says (refusal 16))
    ∷ (unpack_reply 1 2 (3 ∷ 3 ∷ []) (9 ∷ []) is says (refusal 7))
    ∷ []

abbrev pub sheet_cases : List Case
sheet_cases =
    -- with one output there is no bic; a box that is neither complete nor bijective, and one that is both
    (sheet_of zero_file is holds (
    bytes "box 1 1\nnonlinearity 0 1 0 0 1\nxor 2 1 0\nautocorrelation 2 1 1 1\nsac 1 1 1\n"
    ++ bytes "bic none\ndegree 0 1 1\ncomplete no\nbijective no\n"))
    ∷ (sheet_of bit_file is holds (
    bytes "box 1 1\nnonlinearity 0 1 1 0 1\nxor 2 1 1\nautocorrelation 2 1 1 1\nsac 1 1 1\n"
    ++ bytes "bic none\ndegree 1 1 1\ncomplete yes\nbijective yes\n"))
    -- a refused file prints one line
    ∷ (sheet_of [] is holds (bytes "refused 10\n"))
    -- the limit is m up to 16 outputs, and 4 above
    ∷ (limit_of 1 is holds (1 ∷ []))
    ∷ (limit_of 16 is holds (16 ∷ []))
    ∷ (limit_of 17 is holds (4 ∷ []))
    ∷ (limit_of 32 is holds (4 ∷ []))
    -- numbers are in base ten
    ∷ (numeral_of 0 is holds (bytes "0"))
    ∷ (numeral_of 4294967295 is holds (bytes "4294967295"))
    ∷ []

-- so many small files, one behind the other, and room for one more
abbrev pub records_of : (count : ℕ) → List ℕ
records_of count = build (268 + 10 * count) (list_below count (λ k. record { start = 258 + 10 * k; bytes = small_file }))

abbrev pub record_cases : List Case
record_cases =
    -- a file added to an empty catalogue: the count, the offset 258 and the length 10, each low byte first
    (add_reply (replicate 268 0) small_file is says (figures (0 ∷ [])))
    ∷ (added_of (replicate 268 0) small_file is holds (1 ∷ 0 ∷ 2 ∷ 1 ∷ 10 ∷ 0 ∷ (replicate 252 0 ++ small_file)))
    -- a byte too few, and no room for a second
    ∷ (add_reply (replicate 267 0) small_file is says (refusal 14))
    ∷ (add_reply (1 ∷ 0 ∷ 2 ∷ 1 ∷ 10 ∷ 0 ∷ (replicate 252 0 ++ small_file)) small_file is says (refusal 14))
    -- two records: 258 bytes at 772, and ten at 1,286
    ∷ (check_of two_records is says (figures (2 ∷ [])))
    ∷ (fetch_of two_records 0 is says (figures (772 ∷ 258 ∷ [])))
    ∷ (fetch_of two_records 1 is says (figures (1286 ∷ 10 ∷ [])))
    ∷ (fetch_of two_records 2 is says (refusal 15))
    -- 64 records, one less, and one more; a gap is there for each
    ∷ (check_of (records_of 64) is says (figures (64 ∷ [])))
    ∷ (add_reply (records_of 63) small_file is says (figures (63 ∷ [])))
    ∷ (add_reply (records_of 64) small_file is says (refusal 14))
    ∷ (check_of (records_of 65) is says (refusal 13))
    -- the two places exchanged, so that they are not sorted by offset
    ∷ (check_of (2 ∷ 0 ∷ 6 ∷ 5 ∷ 10 ∷ 0 ∷ 4 ∷ 3 ∷ 2 ∷ 1 ∷ behind_places) is says (refusal 13))
    ∷ []

-- the table: cases and bounds, and then what the calls write
abbrev pub bounds_table : List Case
bounds_table = cases ++ (bounds ++ (later_bounds ++ length_bounds))

abbrev pub content_table : List Case
content_table = table_cases ++ (byte_cases ++ (sheet_cases ++ record_cases))

-- ---- what no line above tells apart: the numbers of nearest pairs, each rule of a catalogue, and what removing and compacting leave
-- a catalogue with one place in use, of an offset from 256 on and a length below 256, and the bytes behind that place
abbrev pub one_record : (low size : ℕ) (behind : List ℕ) → List ℕ
one_record low size behind = 1 ∷ 0 ∷ low ∷ 1 ∷ size ∷ 0 ∷ behind

abbrev pub tied_cases : List Case
tied_cases =
    -- an AND and an OR: the pairs that differ at one input, c × 512 + 2 × w + b; the entry past them stays; a list that is too short
    (nearest_reply 2 2 (0 ∷ 2 ∷ 2 ∷ 3 ∷ []) 1 (9 ∷ eight_nines) is says (figures (8 ∷ [])))
    ∷ (nearest_listed 2 2 (0 ∷ 2 ∷ 2 ∷ 3 ∷ []) 1 (9 ∷ eight_nines)
    is holds (512 ∷ 514 ∷ 516 ∷ 519 ∷ 1025 ∷ 1026 ∷ 1028 ∷ 1030 ∷ 9 ∷ []))
    ∷ (nearest_reply 2 2 (0 ∷ 2 ∷ 2 ∷ 3 ∷ []) 1 (9 ∷ 9 ∷ 9 ∷ 9 ∷ 9 ∷ 9 ∷ 9 ∷ []) is says (refusal 9))
    -- one record at 258; then the first and the last byte of the places that are not used
    ∷ (check_of (one_record 2 10 (replicate 252 0 ++ small_file)) is says (figures (1 ∷ [])))
    ∷ (check_of (one_record 2 10 (1 ∷ (replicate 251 0 ++ small_file))) is says (refusal 13))
    ∷ (check_of (one_record 2 10 (replicate 251 0 ++ (1 ∷ small_file))) is says (refusal 13))
    -- a byte before the record, and one behind it: zero, and not
    ∷ (check_of (one_record 3 10 (replicate 253 0 ++ small_file)) is says (figures (1 ∷ [])))
    ∷ (check_of (one_record 3 10 (replicate 252 0 ++ (1 ∷ small_file))) is says (refusal 13))
    ∷ (check_of (one_record 2 10 (replicate 252 0 ++ (small_file ++ (0 ∷ [])))) is says (figures (1 ∷ [])))
    ∷ (check_of (one_record 2 10 (replicate 252 0 ++ (small_file ++ (1 ∷ [])))) is says (refusal 13))
    -- a record that is no accepted file, one that ends behind the buffer, and two that overlap
    ∷ (check_of (one_record 2 9 (replicate 252 0 ++ small_file)) is says (refusal 13))
    ∷ (check_of (one_record 2 11 (replicate 252 0 ++ small_file)) is says (refusal 13))
    ∷ (check_of (2 ∷ 0 ∷ 2 ∷ 1 ∷ 10 ∷ 0 ∷ 2 ∷ 1 ∷ 10 ∷ 0 ∷ (replicate 248 0 ++ small_file)) is says (refusal 13))
    -- the first of the two records removed, and both moved down to 258 and 516
    ∷ (removed_of two_records 0 is holds (1 ∷ 0 ∷ 6 ∷ 5 ∷ 10 ∷ 0 ∷ (replicate 1280 0 ++ (small_file ++ replicate 4 0))))
    ∷ (compacted_of two_records
    is holds (2 ∷ 0 ∷ 2 ∷ 1 ∷ 2 ∷ 1 ∷ 4 ∷ 2 ∷ 10 ∷ 0 ∷ (replicate 248 0 ++ (long_file ++ (small_file ++ replicate 774 0)))))
    ∷ []

abbrev pub worked_table : List Case
worked_table = bounds_table ++ (content_table ++ tied_cases)
