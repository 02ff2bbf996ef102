-- The boxes that are read, the checks in their order, and what acceptance says of the boxes and the limit. Assumes nothing.
use Rattle.std.specs.Prelude.{Result, Ok, Err, ⊤}
use mathlib.Core.Path.{◌≡◌, refl, sym, ◌∙◌}
use mathlib.Core.Bool.{Bool, true, false}
use mathlib.Core.List.Memᴰ
use mathlib.Core.List.{List, [], ◌∷◌, ◌++◌, Memᴰ}
use Prim.Native.Nat.{ℕ, zero, suc, ◌*◌, ◌≤◌}
use native.Mathlib.Omega.{arith}
use borrow.Author.Tests.{eqb-true}
use lib.Dec.{eqb}
use lib.ListN.{length, length-take}
use Rattle.boolean.specs.Sums.{each, every}
use Rattle.boolean.proofs.Every.{both}
use Rattle.boolean.proofs.Selection.{of_cons}
use Rattle.refusals.specs.Table.{Check, ◌unless◌, in_range, first}
use Rattle.refusals.specs.declared.Refusal.{Refusal}
use Rattle.refusals.specs.declared.Refusal.TheVariants.{BoxCount, OutputWidths, Parameter}
use Rattle.refusals.proofs.Bounds.{range_low, range_high}
use Rattle.refusals.proofs.Checks.{Walk, found_after, box, first_passed, first_failed, first_refused, accepted_before, accepted_after, passed}
use Rattle.rounds.specs.Round.{Summand, inputs_of, first_given, outputs_of, same_outputs, summand_checks, sum_checks}
use Rattle.rounds.specs.Work.{IsBox, Round}

-- ---- what the boxes' own checks and the test of their widths say: each is a box
all_boxed : (ss : List Summand) → first (each ss summand_checks) ≡ (Ok tt) → (s : Summand) → Memᴰ s ss → IsBox s
unfolding each
all_boxed [] h s m = absurd (Memᴰ.not-nil m)
all_boxed (t ∷ ts) h s m =
    of_cons IsBox (box t.inputs t.outputs t.rows (each ts summand_checks) h) (all_boxed ts (accepted_after (summand_checks t) (each ts summand_checks) h) s) m

-- of the same width
every_mem : {A : Type 0} (p : A → Bool) (xs : List A) → every p xs ≡ true → (x : A) → Memᴰ x xs → p x ≡ true
unfolding every
every_mem p [] h x m = absurd (Memᴰ.not-nil m)
every_mem p (y ∷ ys) h x m = let t = both (p y) (every p ys) h in of_cons (λ z. p z ≡ true) t.0 (every_mem p ys t.1 x) m

all_same : (ss : List Summand) → same_outputs ss ≡ true → (s : Summand) → Memᴰ s ss → s.outputs ≡ outputs_of ss
all_same [] h s m = absurd (Memᴰ.not-nil m)
all_same (t ∷ ts) h s m =
    of_cons (λ z. z.outputs ≡ t.outputs) refl (λ k. eqb-true s.outputs t.outputs (every_mem (λ z. eqb z.outputs t.outputs) ts h s k)) m

-- and has at most 8 inputs
pub inputs_few : (ss : List Summand) → ((s : Summand) → Memᴰ s ss → IsBox s) → inputs_of ss ≤ 8 * length ss
unfolding inputs_of
inputs_few [] h = omega arith
inputs_few (s ∷ ss) h = omega (arith, (h s (Memᴰ.head refl)).n_high, inputs_few ss (λ t m. h t (Memᴰ.tail m)))

-- boxes that have outputs are some
some_boxes : (ss : List Summand) → 1 ≤ outputs_of ss → 1 ≤ length ss
some_boxes [] h = absurd (omega arith)
some_boxes (s ∷ ss) h = omega arith

-- boxes that have an input, so all of them have
pub round_inputs : (ss : List Summand) → Round ss → 1 ≤ inputs_of ss
unfolding inputs_of
round_inputs [] r = absurd (omega (arith, r.some))
round_inputs (s ∷ ss) r = omega (arith, (r.boxed s (Memᴰ.head refl)).n_low)

-- ---- the call's checks
module _ (count : ℕ) (handed : List Summand) (i : ℕ) where
  -- the boxes that are given
  abbrev ss : List Summand
  ss = first_given count handed

  -- the checks after the boxes' own
  abbrev tests : List Check
  tests = (OutputWidths unless same_outputs ss) ∷ (Parameter unless in_range 1 (outputs_of ss) i) ∷ []

  pub wrong_number : in_range 1 4 count ≡ false → Err BoxCount ≡ first (sum_checks count handed i)
  unfolding sum_checks
  wrong_number h = sym (first_failed BoxCount (in_range 1 4 count) (each ss summand_checks ++ tests) h)

  module _ (number : in_range 1 4 count ≡ true) where
    past_number : first (sum_checks count handed i) ≡ first (each ss summand_checks ++ tests)
    unfolding sum_checks
    past_number = first_passed BoxCount (in_range 1 4 count) (each ss summand_checks ++ tests) number

    pub box_refused : {e : Refusal} → first (each ss summand_checks) ≡ Err e → Err e ≡ first (sum_checks count handed i)
    box_refused h = sym (past_number ∙ first_refused (each ss summand_checks) tests h)

    pub boxes_passed : {k : Result ⊤ Refusal} → first (each ss summand_checks) ≡ (Ok tt) → Walk tests k → k ≡ first (sum_checks count handed i)
    boxes_passed h w = found_after (each ss summand_checks) h w ∙ sym past_number

  -- ---- what acceptance says
  module _ (accepted : first (sum_checks count handed i) ≡ (Ok tt)) where
    abbrev number_test : List Check
    number_test = (BoxCount unless in_range 1 4 count) ∷ []

    number_is : in_range 1 4 count ≡ true
    unfolding sum_checks
    number_is = (passed number_test (accepted_before number_test (each ss summand_checks ++ tests) accepted)).0

    after_number : first (each ss summand_checks ++ tests) ≡ (Ok tt)
    unfolding sum_checks
    after_number = accepted_after number_test (each ss summand_checks ++ tests) accepted

    pub limit_range : in_range 1 (outputs_of ss) i ≡ true
    limit_range = (passed tests (accepted_after (each ss summand_checks) tests after_number)).1.0

    pub limit_low : 1 ≤ i
    limit_low = range_low 1 (outputs_of ss) i limit_range

    pub limit_high : i ≤ outputs_of ss
    limit_high = range_high 1 (outputs_of ss) i limit_range

    -- the number of boxes
    pub number_low : 1 ≤ count
    number_low = range_low 1 4 count number_is

    pub number_high : count ≤ 4
    number_high = range_high 1 4 count number_is

    pub accepted_round : Round ss
    accepted_round = record {
      some = some_boxes ss (omega (arith, limit_low, limit_high));
      few = omega (arith, length-take count handed, number_high);
      boxed = all_boxed ss (accepted_before (each ss summand_checks) tests after_number);
      same = all_same ss (passed tests (accepted_after (each ss summand_checks) tests after_number)).0;
    }

    -- there is a box, and an input
    pub some_outputs : 1 ≤ outputs_of ss
    some_outputs = omega (arith, limit_low, limit_high)

    pub some_inputs : 1 ≤ inputs_of ss
    some_inputs = round_inputs ss accepted_round

    -- "all their inputs, up to 32 of them"
    pub at_most_32 : inputs_of ss ≤ 32
    at_most_32 = omega (arith, inputs_few ss accepted_round.boxed, accepted_round.few)

-- box 1 of an accepted call has at most 32 outputs
pub first_outputs : (count : ℕ) (s : Summand) (ss : List Summand) (i : ℕ) → first (sum_checks count (s ∷ ss) i) ≡ (Ok tt) → s.outputs ≤ 32
first_outputs zero s ss i accepted = absurd (omega (arith, (accepted_round zero (s ∷ ss) i accepted).some))
first_outputs (suc k) s ss i accepted = ((accepted_round (suc k) (s ∷ ss) i accepted).boxed s (Memᴰ.head refl)).m_high
