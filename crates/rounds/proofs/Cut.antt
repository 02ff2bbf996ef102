-- The boxes that are given, cut from the four that are handed over: their checks, and what acceptance says of them. Assumes nothing.
use Rattle.std.specs.Prelude.{Ok, Err, Some, None}
use mathlib.Core.Path.{◌≡◌, refl, sym, ap, ap₂, ◌∙◌, subst}
use mathlib.Core.Bool.{Bool, true, false, ◌&&◌}
use mathlib.Core.List.Memᴰ
use mathlib.Core.List.{List, [], ◌∷◌, ◌++◌}
use Prim.Native.Nat.{ℕ, zero, suc, ◌-◌, ◌^◌, ◌<◌, ◌≤◌}
use native.Mathlib.Omega.{arith}
use borrow.Author.Tests.{eq-eqb}
use lib.Dec.{eqb}
use lib.ListN.{length, take, drop, get_or}
use Rattle.std.proofs.lemmas.List.{take-map, length-take-le}
use Rattle.std.specs.List.{list_all}
use Rattle.boolean.specs.Sums.{each, every}
use Rattle.boolean.specs.Functions.{components}
use Rattle.boolean.specs.Selection.{Candidate, shown}
use Rattle.refusals.specs.Table.{in_range, first, figures}
use Rattle.refusals.specs.declared.Refusal.{Refusal}
use Rattle.refusals.specs.declared.Refusal.TheVariants.{OutputWidths, Parameter}
use Rattle.refusals.proofs.Bounds.{range_low}
use Rattle.refusals.proofs.Checks.{found_before, found_after, skip, stop, end, reply_accepted}
use Rattle.masks.specs.Masks.{FirstFrom}
use Rattle.masks.specs.Parts.{components_between}
use Rattle.masks.proofs.Gathering.{part_lies}
use Rattle.linear.specs.Lent.{PartSwept}
use Rattle.linear.proofs.Ranges.{whole_part}
use Rattle.rounds.specs.Round.{Summand, first_given, outputs_of, same_outputs, summand_checks, sum_checks, sum_nonlinearity, sum_reply, sum_part_checks, sum_between, sum_between_reply}
use Rattle.rounds.specs.Calls.{SumAnswer}
use Rattle.rounds.specs.Parts.{PartSumAnswer}
use Rattle.rounds.specs.Work.{as_summand, summed, Round, NearestOf}
use Rattle.rounds.specs.declared.Summand.{Summand as Lent}
use Rattle.rounds.specs.declared.FoundNearest.{FoundNearest}
use Rattle.rounds.specs.declared.NearestSum.{NearestSum}
use Rattle.rounds.proofs.Entry.{box_refused, boxes_passed, accepted_round, first_outputs, limit_low, number_low, number_high}
use Rattle.rounds.proofs.Ranges.{whole_sum, part_from, part_found, part_nothing}
use Rattle.rounds.proofs.Slices.{summed_length, outputs_summed}

-- the answer that a nearest pair makes
abbrev pub answered : FoundNearest → NearestSum
answered near = record {
  figure = near.figure;
  c = near.c;
  w1 = get_or near.masks 0 0;
  w2 = get_or near.masks 1 0;
  w3 = get_or near.masks 2 0;
  w4 = get_or near.masks 3 0;
  b = near.b;
}

-- ---- four masks, one by one
abbrev pub masks_of : List ℕ → List ℕ
masks_of ms = get_or ms 0 0 ∷ get_or ms 1 0 ∷ get_or ms 2 0 ∷ get_or ms 3 0 ∷ []

four_masks : (ms : List ℕ) → length ms ≡ 4 → masks_of ms ≡ ms
four_masks [] e = absurd (omega arith)
four_masks (a ∷ []) e = absurd (omega arith)
four_masks (a ∷ b ∷ []) e = absurd (omega arith)
four_masks (a ∷ b ∷ c ∷ []) e = absurd (omega arith)
four_masks (a ∷ b ∷ c ∷ d ∷ []) e = refl
four_masks (a ∷ b ∷ c ∷ d ∷ x ∷ ms) e = absurd (omega arith)

-- one to four boxes have outputs
some_outputs_of : (ss : List Summand) → Round ss → 1 ≤ outputs_of ss
some_outputs_of [] r = absurd (omega (arith, r.some))
some_outputs_of (s ∷ ss) r = (r.boxed s (Memᴰ.head refl)).m_low

-- box 1 is one of those that are given
outputs_first : (count : ℕ) (s : Summand) (others : List Summand) → 1 ≤ count → outputs_of (first_given count (s ∷ others)) ≡ s.outputs
outputs_first zero s others l = absurd (omega arith)
outputs_first (suc k) s others l = refl

-- ---- the checks of a part
module _ (count : ℕ) (s : Summand) (others : List Summand) (i : ℕ) where
  abbrev given : List Summand
  given = s ∷ others

  pub sum_refused : (low high : ℕ) (f : Refusal) → Err f ≡ first (sum_checks count given i) → Err f ≡ first (sum_part_checks count given i low high)
  unfolding sum_part_checks
  sum_refused low high f p = found_before (sum_checks count given i) _ (sym p)

  -- where the plain call's were passed
  module _ (accepted : (Ok tt) ≡ first (sum_checks count given i)) (low high p : ℕ) (q : p ≡ 2 ^ s.outputs) where
    power : 2 ^ outputs_of (first_given count given) ≡ p
    power = ap (λ (m : ℕ). 2 ^ m) (outputs_first count s others (number_low count given i (sym accepted))) ∙ sym q

    pub low_fails : false ≡ in_range 1 (p - 1) low → Err Parameter ≡ first (sum_part_checks count given i low high)
    unfolding sum_part_checks
    low_fails f = found_after (sum_checks count given i) (sym accepted) (stop (ap (λ (k : ℕ). in_range 1 (k - 1) low) power ∙ sym f))

    module _ (t : true ≡ in_range 1 (p - 1) low) where
      pub high_fails : false ≡ in_range low (p - 1) high → Err Parameter ≡ first (sum_part_checks count given i low high)
      unfolding sum_part_checks
      high_fails f =
          found_after (sum_checks count given i) (sym accepted)
          (skip (ap (λ (k : ℕ). in_range 1 (k - 1) low) power ∙ sym t) (stop (ap (λ (k : ℕ). in_range low (k - 1) high) power ∙ sym f)))

      pub part_passes : true ≡ in_range low (p - 1) high → (Ok tt) ≡ first (sum_part_checks count given i low high)
      unfolding sum_part_checks
      part_passes f =
          found_after (sum_checks count given i) (sym accepted)
          (skip (ap (λ (k : ℕ). in_range 1 (k - 1) low) power ∙ sym t) (skip (ap (λ (k : ℕ). in_range low (k - 1) high) power ∙ sym f) end))

  -- ---- what acceptance of a part says
  module _ (low high : ℕ) (accepted : (Ok tt) ≡ first (sum_part_checks count given i low high)) where
    pub lies : (first (sum_checks count given i) ≡ (Ok tt)) × (1 ≤ low) × (low ≤ high) × (high < 2 ^ outputs_of (first_given count given))
    unfolding sum_part_checks
    lies = part_lies (sum_checks count given i) (outputs_of (first_given count given)) low high (sym accepted)

    pub plain_accepted : (Ok tt) ≡ first (sum_checks count given i)
    plain_accepted = sym (lies).0

    pub part_limit : 1 ≤ i
    part_limit = limit_low count given i (lies).0

    pub nothing_answer : (start : ℕ) → FirstFrom i low start → high < start → PartSumAnswer count (Ok None) (sum_between_reply count given i low high)
    nothing_answer start from h = record { says = ap figures (part_nothing (first_given count given) high from h) ∙ reply_accepted (sym accepted) _; past = tt }

-- ---- the cut
module _ (count : ℕ) (all : List Lent) (s : Summand) (others : List Summand) (e : summed all ≡ s ∷ others) where
  abbrev handed : List Summand
  handed = s ∷ others

  pub cut_is : summed (take count all) ≡ first_given count handed
  cut_is = sym (take-map as_summand count all) ∙ ap (take count) e

  -- every box is compared with box 1
  cut_same : 1 ≤ count → list_all (λ b. eqb b.m s.outputs) (take count all) ≡ same_outputs (first_given count handed)
  unfolding every
  cut_same l = outputs_summed (take count all) s.outputs ∙ ap (every (λ t. eqb t.outputs s.outputs)) cut_is ∙ go count l
    where
      go : (k : ℕ) → 1 ≤ k → every (λ t. eqb t.outputs s.outputs) (first_given k handed) ≡ same_outputs (first_given k handed)
      go zero l = absurd (omega arith)
      go (suc k) l = ap (λ (t : Bool). t && every (λ b. eqb b.outputs s.outputs) (take k others)) (eq-eqb s.outputs s.outputs refl)

  -- ---- the checks, one after the other
  module _ (i : ℕ) (number : in_range 1 4 count ≡ true) where
    low : 1 ≤ count
    low = range_low 1 4 count number

    pub boxes_fail : (f : Refusal) → Err f ≡ first (each (summed (take count all)) summand_checks) → Err f ≡ first (sum_checks count handed i)
    boxes_fail f p = box_refused count handed i number (ap (λ (ss : List Summand). first (each ss summand_checks)) (sym cut_is) ∙ sym p)

    module _ (ok : (Ok tt) ≡ first (each (summed (take count all)) summand_checks)) where
      passed : first (each (first_given count handed) summand_checks) ≡ (Ok tt)
      passed = ap (λ (ss : List Summand). first (each ss summand_checks)) (sym cut_is) ∙ sym ok

      pub widths_fail : false ≡ list_all (λ b. eqb b.m s.outputs) (take count all) → Err OutputWidths ≡ first (sum_checks count handed i)
      widths_fail p = boxes_passed count handed i number passed (stop (sym (p ∙ cut_same low)))

      module _ (same : true ≡ list_all (λ b. eqb b.m s.outputs) (take count all)) where
        limit_is : in_range 1 (outputs_of (first_given count handed)) i ≡ in_range 1 s.outputs i
        limit_is = ap (λ (m : ℕ). in_range 1 m i) (outputs_first count s others low)

        pub limit_fails : false ≡ in_range 1 s.outputs i → Err Parameter ≡ first (sum_checks count handed i)
        limit_fails p = boxes_passed count handed i number passed (skip (sym (same ∙ cut_same low)) (stop (limit_is ∙ sym p)))

        pub all_pass : true ≡ in_range 1 s.outputs i → (Ok tt) ≡ first (sum_checks count handed i)
        all_pass p = boxes_passed count handed i number passed (skip (sym (same ∙ cut_same low)) (skip (limit_is ∙ sym p) end))

  -- ---- what acceptance says
  module _ (i : ℕ) (accepted : (Ok tt) ≡ first (sum_checks count handed i)) where
    pub cut_round : Round (summed (take count all))
    cut_round = subst Round (sym cut_is) (accepted_round count handed i (sym accepted))

    pub cut_width : outputs_of (summed (take count all)) ≡ s.outputs
    cut_width = ap outputs_of cut_is ∙ outputs_first count s others (number_low count handed i (sym accepted))

    pub first_width : s.outputs ≤ 32
    first_width = first_outputs count s others i (sym accepted)

    pub cut_limit : 1 ≤ i
    cut_limit = limit_low count handed i (sym accepted)

    -- the cut lies within the four, and has as many boxes as are given
    pub cut_lies : length others ≡ 3 → count ≤ length all
    cut_lies n = omega (arith, number_high count handed i (sym accepted), summed_length all, ap length e)

    cut_length : length others ≡ 3 → length (summed (take count all)) ≡ count
    cut_length n = summed_length (take count all) ∙ length-take-le count all (cut_lies n)

    -- what the nearest pair of the cut says, and its masks past the boxes
    module _ (cs : List ℕ) (p : FoundNearest) (h : NearestOf (summed (take count all)) cs p) (n : length others ≡ 3) where
      nearest_says : figures (p.figure ∷ p.c ∷ (take count (masks_of p.masks) ++ (p.b ∷ []))) ≡ figures (shown (sum_nonlinearity (summed (take count all)) cs))
      nearest_says =
          ap (λ (l : List ℕ). figures (p.figure ∷ p.c ∷ (l ++ (p.b ∷ [])))) (ap₂ (λ (k : ℕ) (l : List ℕ). take k l) (sym (cut_length n)) (four_masks p.masks h.four))
          ∙ ap (λ (k : Candidate). figures (shown k)) h.is

      nearest_past : drop count (masks_of p.masks) ≡ drop count (0 ∷ 0 ∷ 0 ∷ 0 ∷ [])
      nearest_past =
          ap₂ (λ (k : ℕ) (l : List ℕ). drop k l) (sym (cut_length n)) (four_masks p.masks h.four) ∙ h.past ∙ ap (λ (k : ℕ). drop k (0 ∷ 0 ∷ 0 ∷ 0 ∷ [])) (cut_length n)

    -- the plain call
    pub whole_swept : (p : ℕ) → p ≡ 2 ^ s.outputs → PartSwept (outputs_of (summed (take count all))) i 1 (p - 1)
    whole_swept p q = whole_part (some_outputs_of (summed (take count all)) cut_round) cut_limit (q ∙ ap (λ (m : ℕ). 2 ^ m) (sym cut_width))

    pub whole_answer : (p : ℕ) (near : FoundNearest) → length others ≡ 3 → p ≡ 2 ^ s.outputs
        → NearestOf (summed (take count all)) (components_between (outputs_of (summed (take count all))) i 1 (p - 1)) near
        → SumAnswer count (Ok (answered near)) (sum_reply count handed i)
    whole_answer p near n q h = record {
      says =
          nearest_says _ near h n
          ∙ ap (λ (k : Candidate). figures (shown k)) (whole_sum (summed (take count all)) (outputs_of (summed (take count all))) i (q ∙ ap (λ (m : ℕ). 2 ^ m) (sym cut_width)))
          ∙ ap (λ (ss : List Summand). figures (shown (sum_nonlinearity ss (components (outputs_of ss) i)))) cut_is
          ∙ reply_accepted (sym accepted) _;
      past = nearest_past _ near h n;
    }

  -- ---- the call on a part
  module _ (i low high : ℕ) (accepted : (Ok tt) ≡ first (sum_part_checks count handed i low high)) (start : ℕ) (from : FirstFrom i low start) (h : start ≤ high) where
    inside : high < 2 ^ outputs_of (summed (take count all))
    inside = subst (λ (ss : List Summand). high < 2 ^ outputs_of ss) (sym cut_is) (lies count s others i low high accepted).3

    above : 1 ≤ low
    above = (lies count s others i low high accepted).1

    pub part_swept : PartSwept (outputs_of (summed (take count all))) i start high
    part_swept = part_from (summed (take count all)) high from above inside h

    pub part_answer : (near : FoundNearest) → length others ≡ 3
        → NearestOf (summed (take count all)) (components_between (outputs_of (summed (take count all))) i start high) near
        → PartSumAnswer count (Ok (Some (answered near)))
        (sum_between_reply count handed i low high)
    part_answer near n p =
        let plain = plain_accepted count s others i low high accepted in
        record {
          says =
              nearest_says i plain _ near p n
              ∙ ap figures (part_found (summed (take count all)) high from above inside h)
              ∙ ap (λ (ss : List Summand). figures (sum_between ss i low high)) cut_is
              ∙ reply_accepted (sym accepted) _;
          past = nearest_past i plain _ near p n;
        }
