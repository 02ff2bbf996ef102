-- What settles definitions that every other statement takes as they are: the bytes of a catalogue and of packed columns, which histories a
-- theorem on histories speaks of, and what one call of a server does in numbers.
use Rattle.std.specs.Prelude.{Ok, Err, Some, None}
use Prim.Native.Nat.{ℕ, ◌+◌, ◌-◌, ◌*◌, ◌/◌, ◌%◌, ◌^◌, ◌≤◌, ◌<◌}
use mathlib.Core.Path.{◌≡◌, refl}
use mathlib.Core.Logic.{◌⊎◌, ◌↔◌}
use mathlib.Core.Bool.{true, false}
use mathlib.Core.List.{List, [], ◌∷◌, ◌++◌, Memᴰ}
use native.Mathlib.Omega.{arith}
use lib.ListN.{get_or}
use Rattle.boolean.specs.Bits.{bit}
use Rattle.boolean.specs.Functions.{at, column}
use Rattle.refusals.specs.Table.{Box, figures}
use Rattle.catalogue.specs.Format.{word_at, count, place_at}
use Rattle.packing.specs.Packing.{column_bytes, packed_value, packed}
use Rattle.packing.proofs.Theorems as packing
use Rattle.design.specs.Statements.{Operation, swaps, sets, only_swaps}
use Rattle.design.proofs.Any as operations
use Rattle.server.specs.declared.Place.{Place}
use Rattle.server.specs.declared.Server.{Server}
use Rattle.server.specs.Model.{holds, analysis_of, spot_at, unfinished}
use Rattle.server.specs.Calls.{state_of_server, place_of, ServerPut, ServerStepped}
use Rattle.server.specs.Statements.{Call, withdraws, steps, runs, step_count, keeps, ServerMade}
use Rattle.server.proofs.Any as calls
use Rattle.server.proofs.OneCall as one
use Prim.Native.Nat.{suc}
use mathlib.Core.List.{map}
use lib.ListN.{length, take, drop, replicate}
use Rattle.refusals.specs.Table.{Reply, refusal, number, said_written, said_verdict}
use Rattle.refusals.specs.Statements.{TableLine, Answers}
use Rattle.refusals.specs.declared.Refusal.{Refusal}
use Rattle.linear.specs.Calls.{said_least_pair}
use Rattle.differential.specs.Calls.{said_largest_cell, said_cell_list}
use Rattle.nearest.specs.Calls.{said_pair_list}
use Rattle.avalanche.specs.Calls.{said_largest_change}
use Rattle.algebraic.specs.Calls.{said_degree_found}
use Rattle.boxfile.specs.File.{said_box_file}
use Rattle.catalogue.specs.Calls.{said_told, said_fetched}
use Rattle.swaps.specs.Calls.{said_raising_swap}
use Rattle.rounds.specs.declared.Widths.{Widths}
use Rattle.rounds.specs.Calls.{summands_of, SumAnswer}
use Rattle.design.specs.declared.Design.{Design}
use Rattle.design.specs.Model.{DesignState}
use Rattle.design.specs.Model as model
use Rattle.design.specs.Calls.{snapshot_of, design_of, said_box_held, DesignBegun}
use Rattle.design.specs.Statements.{leaves, LastSet}
use Rattle.design.proofs.Histories as histories
use Rattle.server.specs.Model.{Analysis, ServerState, empty, still_unfinished, finished}
use Rattle.server.specs.Calls.{said_asked, server_of, ServerRan}
use Rattle.sheet.specs.Sheet.{sheet_text}
use Rattle.sheet.specs.Calls.{SheetWritten}
use Rattle.satmegwo.specs.Exports.{version}
use Rattle.satmegwo_design.specs.Exports.{number_says}
use Rattle.claims.specs.Statements.{ReturnsNumber}
use Rattle.claims.proofs.Fields as fields

-- [02.§7.1] "It begins with a count of two bytes, low byte first, .. then 64 places for pairs of offset and length, each two bytes, low
-- byte first."
pub directory_bytes : (b : List ℕ) (k : ℕ) → (count b ≡ at b 0 + 256 * at b 1)
    × ((place_at b k).offset ≡ at b (4 * k + 2) + 256 * at b (4 * k + 3)) × ((place_at b k).size ≡ at b (4 * k + 4) + 256 * at b (4 * k + 5))
unfolding count place_at word_at
directory_bytes b k =
    let p : 4 * k + 2 + 1 ≡ 4 * k + 3 = omega arith in
    let q : 4 * k + 4 + 1 ≡ 4 * k + 5 = omega arith in
    (refl, cc, cc)

-- [02.§8.1] "for column 1 first, the truth values in input order, eight to a byte, lowest bit first.": of column j, whose bytes follow
-- those of the columns before it, the value at x is bit x % 8 + 1, counted from 1, of byte x / 8
pub packed_bits : (n m : ℕ) (rows : List ℕ) → Box n m rows → (j x : ℕ) → 1 ≤ j → j ≤ m → x < 2 ^ n
    → bit (x % 8 + 1) (at (packed n m rows) ((j - 1) * column_bytes n + x / 8)) ≡ column rows j x
unfolding packed_value
packed_bits = packing.column_packed

-- [02.§11.9] "with only swaps": each of the operations is a swap or sets a mark
pub only_swaps_exactly : (os : List Operation)
    → (only_swaps os ≡ true) ↔ ((o : Operation) → Memᴰ o os → ((x y : ℕ) × (o ≡ swaps x y)) ⊎ ((k : ℕ) × (o ≡ sets k)))
only_swaps_exactly = operations.only_swaps_exactly

-- [02.§14.9] "A box that isn't withdrawn": no call among them withdraws it
pub keeps_exactly : (q : ℕ) (calls : List Call) → (keeps q calls ≡ true) ↔ (Memᴰ (withdraws q) calls → ⊥)
keeps_exactly = calls.keeps_exactly

-- [02.§14.9] "within 8 × (2^m − 1) steps": each step is counted, and a run is as many steps as its budget
pub steps_counted : (step_count (steps ∷ []) ≡ 1) × ((budget : ℕ) → step_count (runs budget ∷ []) ≡ budget)
    × ((cs ds : List Call) → step_count (cs ++ ds) ≡ step_count cs + step_count ds)
steps_counted = one.steps_counted

-- [02.§14.4] "from place 1 at the start": until the first step the place last served is 0, and the circle after it begins with place 1
pub first_from_one : (calls : List Call) (s : Server) → ServerMade calls s → step_count calls ≡ 0 → s.last ≡ 0
first_from_one calls s = one.first_from_one

-- [02.§14.6] "Putting examines none."
pub put_examines_none : (calls : List Call) (s r : Server) (q n m : ℕ) (rows : List ℕ) → ServerMade calls s → ServerPut s q n m rows (figures []) r
    → (d : Place) → ((get_or r.places (q - 1) d).examined ≡ 0) × (get_or r.places (q - 1) d ≡ place_of (holds (analysis_of n m rows 0)))
put_examines_none calls s r q n m rows made done d = (one.put_examines_none made done d, one.put_fresh made done d)

-- [02.§14.3] [02.§14.4] "One step examines one combination, .. of the next unfinished box after the place last served, in a circle": the
-- places after it are (last + k) % 8 + 1, k = 0, 1, .., and the first of them that is unfinished has one combination more examined, of the
-- same box; it is the place last served then, and every other place is as it was. So it is on every server, whoever made it.
pub step_examines_one : (s r : Server) → ServerStepped s r → (k : ℕ) → k < 8
    → unfinished (spot_at (state_of_server s) ((s.last + k) % 8 + 1)) ≡ true
    → ((h : ℕ) → h < k → unfinished (spot_at (state_of_server s) ((s.last + h) % 8 + 1)) ≡ false)
    → (r.last ≡ (s.last + k) % 8 + 1)
    × ((d : Place) → let old = get_or s.places ((s.last + k) % 8) d in let new = get_or r.places ((s.last + k) % 8) d in
    (new.examined ≡ old.examined + 1) × (new.n ≡ old.n) × (new.m ≡ old.m) × (new.rows ≡ old.rows))
    × ((d : Place) (i : ℕ) → ¬ (i ≡ (s.last + k) % 8) → get_or r.places i d ≡ get_or s.places i d)
step_examines_one s r stepped k low some none = (
  one.step_last s r stepped k low some none,
  λ d.
      let same = one.step_keeps_box s r stepped k low some none d in
      (one.step_examines_one s r stepped k low some none d, same.0, same.1, same.2),
  one.step_leaves_others s r stepped k low some none,
)

-- [02.§14.9] a run is its steps, one after the other: of budget 0 none, and each one more a step
pub run_is_steps : (s r : Server) → (ServerRan s 0 r → r ≡ s)
    × ((k : ℕ) → ServerRan s (suc k) r → (t : Server) × ServerRan s k t × ServerStepped t r)
run_is_steps s r = (fields.ran_none, λ k. fields.ran_last)

-- [02.§14.7] what stands in which field of a server: place p is entry p − 1, and of a box it has the widths, the rows and then zeros, how many
-- combinations were examined, and the count, c, w and b that are held of them, which before the first are 2^n + 1 and zeros; an empty place
-- has zeros
pub place_fields : ((s : ServerState) → ((server_of s).places ≡ map place_of s.spots) × ((server_of s).last ≡ s.last))
    × ((a : Analysis) → place_of (holds a) ≡ record {
      taken = 1;
      n = a.n;
      m = a.m;
      rows = a.rows ++ drop (length a.rows) (replicate 256 0);
      examined = a.examined;
      found = record { count = a.found.figure; c = at a.found.witness 0; w = at a.found.witness 1; b = at a.found.witness 2 };
    })
    × (place_of empty ≡ record {
      taken = 0;
      n = 0;
      m = 0;
      rows = replicate 256 0;
      examined = 0;
      found = record { count = 0; c = 0; w = 0; b = 0 };
    })
    × ((n m : ℕ) (rows : List ℕ) → (place_of (holds (analysis_of n m rows 0))).found ≡ record { count = 2 ^ n + 1; c = 0; w = 0; b = 0 })
unfolding place_of analysis_of
place_fields = (λ s. (fields.places_mapped s.spots, refl), λ a. refl, refl, λ n m rows. refl)

-- [02.§11.3] "A design is one box with marks 1 to 16": it begins with the box that it is given, in the first 2^n entries of its array; refused, it
-- has no inputs
pub design_begins_with : (n m : ℕ) (rows : List ℕ) (said : Reply) (d : Design) → DesignBegun n m rows said d
    → (said ≡ figures [] → (d.n ≡ n) × (d.m ≡ m) × (take (2 ^ n) d.rows ≡ rows)) × ((k : ℕ) → said ≡ refusal k → d.n ≡ 0)
design_begins_with n m rows said d c = (fields.begun_box n m rows said d c, fields.begun_none n m rows said d c)

-- [02.§11.3] what stands in which field of a design: the widths, the rows and then zeros, and mark k as entry k − 1, with 1 and its rows so where
-- it is set, and zeros where it is not
pub design_fields : ((s : DesignState) → ((design_of s).n ≡ s.n) × ((design_of s).m ≡ s.m)
    × ((design_of s).rows ≡ s.rows ++ drop (length s.rows) (replicate 256 0)) × ((design_of s).marks ≡ map snapshot_of s.marks))
    × ((rows : List ℕ) → snapshot_of (model.keeps rows) ≡ record { taken = 1; rows = rows ++ drop (length rows) (replicate 256 0) })
    × (snapshot_of model.unset ≡ record { taken = 0; rows = replicate 256 0 })
unfolding design_of
design_fields = (λ s. (refl, refl, refl, fields.marks_mapped s.marks), λ rows. refl, refl)

-- [02.§11.6] "when that mark was last set": after any operations it was set by a last one, or by none
pub last_set_or_none : (k : ℕ) (os : List Operation) → (leaves k os ≡ true) ⊎ LastSet k os
last_set_or_none = histories.last_or_none

-- [D1.2] [D1.4] what an operation on a design returns to C is by the lines of the call, whose contract it has with `number_says` of that number
pub design_number_out : (returned : ℕ) (lines : List TableLine) → Answers (number_says returned) [] lines → ReturnsNumber returned lines
design_number_out = fields.number_out

-- [02.§4.1] the boxes of a sum, as the call takes them: of each the widths and the rows of its number
pub sum_takes_boxes : (w : Widths) (rows1 rows2 rows3 rows4 : List ℕ) → summands_of w rows1 rows2 rows3 rows4
    ≡ record { inputs = w.n1; outputs = w.m1; rows = rows1 } ∷ record { inputs = w.n2; outputs = w.m2; rows = rows2 }
    ∷ record { inputs = w.n3; outputs = w.m3; rows = rows3 } ∷ record { inputs = w.n4; outputs = w.m4; rows = rows4 } ∷ []
sum_takes_boxes w rows1 rows2 rows3 rows4 = refl

-- [01.sheet.2] the sheet stands at the start of the text, and behind it what was there
pub sheet_at_start : (file old new : List ℕ) (answer : ℕ) → SheetWritten file old answer new → length old ≡ 332
    → (answer ≡ length (sheet_text file)) × (answer ≤ 332) × (new ≡ sheet_text file ++ drop (length (sheet_text file)) old)
sheet_at_start file old new answer w long = (w.size, w.inside, fields.sheet_written file old new answer w long)

-- [01.forms.10] what each answer says, its fields in the order of its declaration: yes is 1 and no is 0, and a figure comes before its witness
pub answers_say : (d a c w b s : ℕ) (e : Refusal)
    → ((said_written (Ok tt) ≡ figures []) × (said_written (Err e) ≡ refusal (number e)))
    × ((said_verdict (Ok true) ≡ figures (1 ∷ [])) × (said_verdict (Ok false) ≡ figures (0 ∷ [])))
    × (said_least_pair (Ok (record { count = d; c = c; w = w; b = b })) ≡ figures (d ∷ c ∷ w ∷ b ∷ []))
    × (said_largest_cell (Ok (record { count = d; a = a; beta = b })) ≡ figures (d ∷ a ∷ b ∷ []))
    × ((said_cell_list (Ok d) ≡ figures (d ∷ [])) × (said_pair_list (Ok d) ≡ figures (d ∷ [])))
    × ((said_largest_change (Ok (record { figure = d; c = c; s = s })) ≡ figures (d ∷ c ∷ s ∷ []))
    × (said_degree_found (Ok (record { degree = d; c = c })) ≡ figures (d ∷ c ∷ [])))
    × ((said_box_file (Ok (record { n = a; m = b })) ≡ figures (a ∷ b ∷ [])) × (said_box_held (Ok (record { n = a; m = b })) ≡ figures (a ∷ b ∷ [])))
    × ((said_told (Ok d) ≡ figures (d ∷ [])) × (said_fetched (Ok (record { offset = a; size = b })) ≡ figures (a ∷ b ∷ [])))
    × ((said_raising_swap (Ok (Some (record { low = a; high = b; figure = d }))) ≡ figures (1 ∷ a ∷ b ∷ d ∷ []))
    × (said_raising_swap (Ok None) ≡ figures (0 ∷ 0 ∷ 0 ∷ 0 ∷ [])))
    × ((said_asked (Ok None) ≡ still_unfinished) × (said_asked (Ok (Some (record { count = d; c = c; w = w; b = b }))) ≡ finished (d ∷ c ∷ w ∷ b ∷ [])))
answers_say d a c w b s e =
    ((refl, refl), (refl, refl), refl, refl, (refl, refl), (refl, refl), (refl, refl), (refl, refl), (refl, refl), (refl, refl))

-- [02.§4.6] and of a sum of so many boxes: the figure, c, a mask for each box and b; the masks past that number are 0
pub sum_answer_says : (d c w1 w2 w3 w4 b : ℕ)
    → SumAnswer 1 (Ok (record { figure = d; c = c; w1 = w1; w2 = 0; w3 = 0; w4 = 0; b = b })) (figures (d ∷ c ∷ w1 ∷ b ∷ []))
    × SumAnswer 2 (Ok (record { figure = d; c = c; w1 = w1; w2 = w2; w3 = 0; w4 = 0; b = b })) (figures (d ∷ c ∷ w1 ∷ w2 ∷ b ∷ []))
    × SumAnswer 3 (Ok (record { figure = d; c = c; w1 = w1; w2 = w2; w3 = w3; w4 = 0; b = b })) (figures (d ∷ c ∷ w1 ∷ w2 ∷ w3 ∷ b ∷ []))
    × SumAnswer 4 (Ok (record { figure = d; c = c; w1 = w1; w2 = w2; w3 = w3; w4 = w4; b = b })) (figures (d ∷ c ∷ w1 ∷ w2 ∷ w3 ∷ w4 ∷ b ∷ []))
sum_answer_says d c w1 w2 w3 w4 b = (
  record { says = refl; past = refl },
  record { says = refl; past = refl },
  record { says = refl; past = refl },
  record { says = refl; past = refl },
)

-- [beside.5] the version of the C library is 1.0.0: ten thousand for the first number, a hundred for the second, one for the third
pub version_is : version ≡ 1 * 10000 + 0 * 100 + 0
version_is = refl
