-- Sweeps in parts. `linear::nonlinearity_between`, `avalanche::autocorrelation_between`, `avalanche::dynamic_distance_between` and
-- `rounds::sum_nonlinearity_between` are the plain calls over the combinations c from `low` to `high` alone, and `linear::merge`,
-- `avalanche::merge_changes` and `rounds::merge_sums` make one answer of the answers of two parts. A designer may cut 1 to 2^m − 1 as he likes, run the parts where and when he likes, some of them twice, and merge in
-- any order: what comes out is the reply of the plain call, over every combination within its limit. It is document 01's "Combinations may
-- be visited in any order without effect on any answer" of calls that each visit some of them.
use Rattle.std.specs.Prelude.{Result, Ok, Option, Some, None}
use Rattle.refusals.specs.declared.Refusal.{Refusal}
use Prim.Native.Nat.{ℕ, ◌^◌, ◌≤◌, ◌<◌}
use mathlib.Core.Path.{◌≡◌, refl}
use mathlib.Core.Logic.{◌↔◌}
use mathlib.Core.Bool.{Bool, true}
use mathlib.Core.List.{List, [], ◌∷◌, ◌++◌}
use lib.Dec.{ltb}
use Rattle.refusals.specs.Table.{Reply, figures, first}
use Rattle.refusals.specs.Statements.{◌unless_that◌, Answers, Between, box_lines, limit_lines}
use Rattle.refusals.proofs.Means.{answers}
use lib.ListN.{length}
use Rattle.boolean.specs.Functions.{at}
use Rattle.border.specs.Border.{WroteOut}
use Rattle.masks.specs.Parts.{above, merged_figures, merged_reply, merged_in_turn}
use Rattle.masks.specs.Statements.{MaskBetween, Cut, Gathered, Covered, replies}
use Rattle.linear.specs.Nonlinearity.{nonlinearity_reply, nonlinearity_between, nonlinearity_between_reply, part_checks}
use Rattle.linear.specs.Parts.{said_part}
use Rattle.linear.specs.Statements.{NonlinearityBetweenReported, nonlinearity_cut}
use Rattle.linear.specs.declared.Found.{Found}
use Rattle.linear.proofs.Gathering as pairs
use Rattle.linear.proofs.PartReports as pair_reports
use Rattle.avalanche.specs.Avalanche.{autocorrelation_between, distance_between}
use Rattle.avalanche.specs.Calls.{autocorrelation_reply, distance_reply}
use Rattle.avalanche.specs.Parts.{said_part_change, distance_part_checks, autocorrelation_between_reply, distance_between_reply}
use Rattle.avalanche.specs.Statements.{AutocorrelationBetweenReported, DistanceBetweenReported, autocorrelation_cut, distance_cut}
use Rattle.avalanche.specs.declared.FoundChange.{FoundChange}
use Rattle.avalanche.proofs.Gathering as changes
use Rattle.avalanche.proofs.PartReports as change_reports
use Rattle.rounds.specs.Round.{Summand, first_given, outputs_of, sum_reply, sum_between, sum_part_checks, sum_between_reply}
use Rattle.rounds.specs.Parts.{said_part_sum}
use Rattle.rounds.specs.Statements.{SumBetweenReported, sum_cut_reply}
use Rattle.rounds.specs.declared.NearestSum.{NearestSum}
use Rattle.rounds.proofs.Gathering as sums
use Rattle.rounds.proofs.PartReports as sum_reports
use Rattle.claims.specs.Lines.{each_box_lines, EachOutputs}
use Rattle.satmegwo_parts.specs.Exports.{part_figures, sum_size, merged_part, merge_checks}
use Rattle.satmegwo_parts.proofs.Merging as arrays
use Rattle.claims.specs.Statements.{Returns}
use Rattle.claims.proofs.Returning as out
use Rattle.claims.specs.Parts.{end_lines, MergesByOrder, MergedAnswers}
use Rattle.claims.proofs.PartWords.{part_call, distance_part_call, sum_part_call, less, merges_by_order, says_gathered}

-- ---- [D1.2] [parts.1] The calls, as demand 1 has the others: "every call ends with its figures or with the numbered refusal whose condition is met". The
-- lines are the plain call's, and then 6 for each end of the part; there are no figures where no combination within the limit lies in it.
module _ (n m : ℕ) (rows : List ℕ) (i low high : ℕ) where
  -- linear::nonlinearity_between, avalanche::autocorrelation_between: 1, 2, 3, 4, 6 (the limit), 6, 6
  pub nonlinearity_between_call : Answers (nonlinearity_between_reply n m rows i low high) (nonlinearity_between n m rows i low high)
      (limit_lines n m rows i ++ end_lines m low high)
  nonlinearity_between_call = answers (part_call n m rows i low high) _

  pub autocorrelation_between_call : Answers (autocorrelation_between_reply n m rows i low high) (autocorrelation_between n m rows i low high)
      (limit_lines n m rows i ++ end_lines m low high)
  autocorrelation_between_call = answers (part_call n m rows i low high) _

  -- avalanche::dynamic_distance_between: 1, 2, 3, 4, 6 (i), 6 (j), 6, 6
  pub dynamic_distance_between_call : (j : ℕ)
      → Answers (distance_between_reply n m rows i j low high) (distance_between n m rows i j low high)
      (box_lines 32 n m rows ((6 unless_that Between 1 m i) ∷ (6 unless_that Between 1 n j) ∷ []) ++ end_lines m low high)
  dynamic_distance_between_call j = answers (distance_part_call n m rows i j low high) _

-- rounds::sum_nonlinearity_between: the plain call's (11, each box's 1, 2, 3, 4 in box order, 12, 6), then 6, 6
pub sum_nonlinearity_between_call : (count : ℕ) (handed : List Summand) (i low high : ℕ)
    → let boxes = first_given count handed in
    Answers (sum_between_reply count handed i low high) (sum_between boxes i low high)
    (((11 unless_that Between 1 4 count)
    ∷ each_box_lines boxes ((12 unless_that EachOutputs (outputs_of boxes) boxes) ∷ (6 unless_that Between 1 (outputs_of boxes) i) ∷ []))
    ++ end_lines (outputs_of boxes) low high)
sum_nonlinearity_between_call count handed i low high = answers (sum_part_call count handed i low high) _

-- ---- [parts.2] What a part's figures are. Where a combination k within the limit lies in the part: the best of the combinations of the part, and the
-- first witness that has it, "by c, fewest ones first, then by value" and on as in the plain call.
module _ (n m : ℕ) (rows : List ℕ) (i low high : ℕ) (accepted : first (part_checks n m rows i low high) ≡ (Ok tt)) where
  pub nonlinearity_of_part : (k : ℕ) → MaskBetween m i low high k → NonlinearityBetweenReported n m rows i low high
  nonlinearity_of_part = pair_reports.between_reported n m rows i low high accepted

  pub autocorrelation_of_part : (k : ℕ) → MaskBetween m i low high k → AutocorrelationBetweenReported n m rows i low high
  autocorrelation_of_part = change_reports.autocorrelation_between_reported n m rows i low high accepted

  -- [parts.3] and there is nothing exactly where none does
  pub nonlinearity_of_nothing : (nonlinearity_between_reply n m rows i low high ≡ figures []) ↔ ((k : ℕ) → ¬ MaskBetween m i low high k)
  nonlinearity_of_nothing = pair_reports.between_nothing n m rows i low high accepted

  pub autocorrelation_of_nothing : (autocorrelation_between_reply n m rows i low high ≡ figures []) ↔ ((k : ℕ) → ¬ MaskBetween m i low high k)
  autocorrelation_of_nothing = change_reports.autocorrelation_between_nothing n m rows i low high accepted

-- [parts.2] the dynamic distance likewise
module _ (n m : ℕ) (rows : List ℕ) (i j low high : ℕ) (accepted : first (distance_part_checks n m rows i j low high) ≡ (Ok tt)) where
  pub distance_of_part : (k : ℕ) → MaskBetween m i low high k → DistanceBetweenReported n m rows i j low high
  distance_of_part = change_reports.distance_between_reported n m rows i j low high accepted

  -- [parts.3]
  pub distance_of_nothing : (distance_between_reply n m rows i j low high ≡ figures []) ↔ ((k : ℕ) → ¬ MaskBetween m i low high k)
  distance_of_nothing = change_reports.distance_between_nothing n m rows i j low high accepted

-- [parts.2] and the sum
module _ (count : ℕ) (handed : List Summand) (i low high : ℕ) (accepted : first (sum_part_checks count handed i low high) ≡ (Ok tt)) where
  pub sum_of_part : (k : ℕ) → MaskBetween (outputs_of (first_given count handed)) i low high k → SumBetweenReported count handed i low high
  sum_of_part = sum_reports.between_reported count handed i low high accepted

  -- [parts.3]
  pub sum_of_nothing : (sum_between_reply count handed i low high ≡ figures [])
      ↔ ((k : ℕ) → ¬ MaskBetween (outputs_of (first_given count handed)) i low high k)
  sum_of_nothing = sum_reports.between_nothing count handed i low high accepted

-- ---- [parts.4] What merging does. The contract of `linear::merge` is that its answer says `merged_reply ltb` of what its two answers say: fewer inputs
-- are better; that of `avalanche::merge_changes` is the same by `above`: the larger figure is better.
pub least_merges : MergesByOrder (λ y x. y < x) (merged_reply ltb)
least_merges = merges_by_order ltb less

pub largest_merges : MergesByOrder (λ y x. x < y) (merged_reply above)
largest_merges = merges_by_order above (λ y x. less x y)

-- [parts.8] For C (`satmegwo_parts`) a part is an array: 1, then what the reply has, or zeros where it has nothing, as many as there would be numbers.
pub part_for_c : (size x : ℕ) (xs : List ℕ)
    → (part_figures size (x ∷ xs) ≡ 1 ∷ x ∷ xs) × (length (part_figures size []) ≡ size) × ((k : ℕ) → at (part_figures size []) k ≡ 0)
part_for_c = arrays.part_for_c

-- and of the sum of so many boxes, 1 to 4, there are 4 numbers and a mask for each box
pub sum_size_lem : (sum_size 1 ≡ 5) × (sum_size 2 ≡ 6) × (sum_size 3 ≡ 7) × (sum_size 4 ≡ 8)
sum_size_lem = (refl, refl, refl, refl)

-- [D1.2] [D1.4] [parts.8] `satmegwo_merge_least` and `satmegwo_merge_largest` go through these lines, and leave the array of the merged replies
pub merge_out : (x y result old new : List ℕ) (returned : ℕ) → WroteOut (merge_checks x y (length old)) result old returned new
    → Returns returned
    ((3 unless_that (3 ≤ length x)) ∷ (3 unless_that (length y ≡ length x)) ∷ (4 unless_that (at x 0 ≤ 1)) ∷ (4 unless_that (at y 0 ≤ 1))
    ∷ (7 unless_that (length old ≡ length x)) ∷ []) result old new
merge_out x y result old new returned = out.returns (arrays.merge_means x y (length old))

-- [parts.8]
pub merged_for_c : (before : ℕ → ℕ → Bool) (size : ℕ) (xs ys : List ℕ)
    → merged_part before (part_figures size xs) (part_figures size ys) ≡ part_figures size (merged_figures before xs ys)
merged_for_c = arrays.merged_figures_lem

-- ---- [parts.5] Parts make the whole: one law (masks, proofs/Gathering), an instance for each figure. First of replies merged one after the other, as
-- a loop does it: parts in any order, which may overlap, and of which each mask from 1 to 2^m − 1 lies in one.
module _ (n m : ℕ) (rows : List ℕ) (i : ℕ) (c : Cut m) (cs : List (Cut m)) (all : (k : ℕ) → 1 ≤ k → k < 2 ^ m → Covered k (c ∷ cs)) where
  pub nonlinearity_by_parts : merged_in_turn ltb (nonlinearity_cut n m rows i c) (replies (nonlinearity_cut n m rows i) cs)
      ≡ nonlinearity_reply n m rows i
  nonlinearity_by_parts = pairs.parts_whole n m rows i c cs all

  pub autocorrelation_by_parts : merged_in_turn above (autocorrelation_cut n m rows i c) (replies (autocorrelation_cut n m rows i) cs)
      ≡ autocorrelation_reply n m rows i
  autocorrelation_by_parts = changes.autocorrelation_parts n m rows i c cs all

  pub distance_by_parts : (j : ℕ) → merged_in_turn above (distance_cut n m rows i j c) (replies (distance_cut n m rows i j) cs)
      ≡ distance_reply n m rows i j
  distance_by_parts j = changes.distance_parts n m rows i j c cs all

-- [parts.6] Then in any grouping, as several machines do it: `covers` tells the masks of the parts that were merged.
module _ (n m : ℕ) (rows : List ℕ) (i : ℕ) {covers : ℕ → Bool} (all : (k : ℕ) → 1 ≤ k → k < 2 ^ m → covers k ≡ true) where
  pub nonlinearity_by_tree : {x : Reply} → Gathered ltb m (nonlinearity_cut n m rows i) covers x → x ≡ nonlinearity_reply n m rows i
  nonlinearity_by_tree t = pairs.gathered_whole n m rows i t all

  pub autocorrelation_by_tree : {x : Reply} → Gathered above m (autocorrelation_cut n m rows i) covers x → x ≡ autocorrelation_reply n m rows i
  autocorrelation_by_tree t = changes.autocorrelation_whole n m rows i t all

  pub distance_by_tree : (j : ℕ) {x : Reply} → Gathered above m (distance_cut n m rows i j) covers x → x ≡ distance_reply n m rows i j
  distance_by_tree j t = changes.distance_whole n m rows i j t all

  -- [parts.7] and of the answers themselves, by the contracts of the calls and of the functions that merge two
  pub nonlinearity_by_answers : {r : Result (Option Found) Refusal} → MergedAnswers said_part ltb m (nonlinearity_cut n m rows i) covers r
      → said_part r ≡ nonlinearity_reply n m rows i
  nonlinearity_by_answers t = nonlinearity_by_tree (says_gathered t)

  pub autocorrelation_by_answers : {r : Result (Option FoundChange) Refusal} → MergedAnswers said_part_change above m (autocorrelation_cut n m rows i) covers r
      → said_part_change r ≡ autocorrelation_reply n m rows i
  autocorrelation_by_answers t = autocorrelation_by_tree (says_gathered t)

  pub distance_by_answers : (j : ℕ) {r : Result (Option FoundChange) Refusal} → MergedAnswers said_part_change above m (distance_cut n m rows i j) covers r
      → said_part_change r ≡ distance_reply n m rows i j
  distance_by_answers j t = distance_by_tree j (says_gathered t)

-- The sum of boxes, likewise. An answer is read for the count of boxes: `SumsMerged` is the contract of `rounds::merge_sums`.
module _ (count : ℕ) (handed : List Summand) (i : ℕ) where
  -- the number of outputs
  abbrev outputs : ℕ
  outputs = outputs_of (first_given count handed)

  -- [parts.5]
  pub sum_by_parts : (c : Cut outputs) (cs : List (Cut outputs)) → ((k : ℕ) → 1 ≤ k → k < 2 ^ outputs → Covered k (c ∷ cs))
      → merged_in_turn ltb (sum_cut_reply count handed i c) (replies (sum_cut_reply count handed i) cs) ≡ sum_reply count handed i
  sum_by_parts = sums.parts_whole count handed i

  module _ {covers : ℕ → Bool} (all : (k : ℕ) → 1 ≤ k → k < 2 ^ outputs → covers k ≡ true) where
    -- [parts.6]
    pub sum_by_tree : {x : Reply} → Gathered ltb outputs (sum_cut_reply count handed i) covers x → x ≡ sum_reply count handed i
    sum_by_tree t = sums.gathered_whole count handed i t all

    -- [parts.7]
    pub sum_by_answers : {r : Result (Option NearestSum) Refusal} → MergedAnswers (said_part_sum count) ltb outputs (sum_cut_reply count handed i) covers r
        → said_part_sum count r ≡ sum_reply count handed i
    sum_by_answers t = sum_by_tree (says_gathered t)

-- [parts.7] What an answer over a part says: of a pair the count, c, w and b, of a change the figure, c and the change, of a sum of four boxes
-- the figure, c, the four masks and b.
pub part_answers_say : (figure c v b w1 w2 w3 w4 : ℕ)
    → (said_part (Ok (Some (record { count = figure; c = c; w = v; b = b }))) ≡ figures (figure ∷ c ∷ v ∷ b ∷ []))
    × (said_part (Ok None) ≡ figures [])
    × (said_part_change (Ok (Some (record { figure = figure; c = c; s = v }))) ≡ figures (figure ∷ c ∷ v ∷ []))
    × (said_part_change (Ok None) ≡ figures [])
    × (said_part_sum 4 (Ok (Some (record { figure = figure; c = c; w1 = w1; w2 = w2; w3 = w3; w4 = w4; b = b })))
    ≡ figures (figure ∷ c ∷ w1 ∷ w2 ∷ w3 ∷ w4 ∷ b ∷ []))
    × (said_part_sum 4 (Ok None) ≡ figures [])
part_answers_say figure c v b w1 w2 w3 w4 = (refl, refl, refl, refl, refl, refl)
