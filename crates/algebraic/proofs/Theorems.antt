-- The normal form twice is the table again; the degree, as the call replies it, is the least of the combinations' within the limit, and their first has
-- it; a wider limit covers more; where it is at most 1 the nonlinearity is 0; and bijective boxes, by their rows.
use Rattle.std.specs.Prelude.{Ok}
use mathlib.Core.Path.{◌≡◌, sym, ap, ◌∙◌, subst}
use mathlib.Core.Logic.Iff
use mathlib.Core.Logic.{◌↔◌}
use mathlib.Core.Bool.{true}
use mathlib.Core.List.{List, [], ◌∷◌}
use Prim.Native.Nat.{ℕ, ◌^◌, ◌<◌, ◌≤◌}
use native.Mathlib.Decide.{dec_lt}
use native.Mathlib.Nat.{zero-lt-suc}
use native.Mathlib.Omega.{arith}
use borrow.Author.Tests.{eqb-true}
use lib.Dec.{eqb}
use lib.ListN.{length, get_or-eq_default}
use Rattle.boolean.specs.Sums.{distinct}
use Rattle.boolean.specs.Functions.{at, MaskWithin, component, MaskBefore, degree, distance, normal_form}
use Rattle.boolean.specs.Selection.{Candidate, shown}
use Rattle.boolean.proofs.AffineForms.{constant_degree, degree_constant, degree_affine, affine_degree, distance_none, distance_same}
use Rattle.boolean.proofs.Components.{rank_of_before, within_more}
use Rattle.boolean.proofs.Degrees.{length_normal_form, at_normal_form, normal_form_twice, degree_le}
use Rattle.boolean.proofs.Digits.{component_lt}
use Rattle.boolean.proofs.Distinct.{distinct_at, distinct_of}
use Rattle.boolean.proofs.Every.{both}
use Rattle.boolean.proofs.NormalForm.{coefficient_boolean}
use Rattle.boolean.proofs.Selection.{first_least_chooses, first_ranked}
use Rattle.refusals.specs.Table.{table_checks, table_call_checks, box_checks, limit_checks, first, figures, as_figure, Table}
use Rattle.refusals.proofs.Checks.{found_after, skip, end, passed, accepted_after, box, table, table_accepted, Limited, limited, reply_accepted}
use Rattle.refusals.proofs.Replies.{figures_accepted, head_same, same_figure, figure_true}
use Rattle.linear.specs.Nonlinearity.{nonlinearity, nonlinearity_reply}
use Rattle.linear.proofs.Theorems as linear
use Rattle.algebraic.specs.Algebraic.{with_degree, degrees, box_degree, bijective}
use Rattle.algebraic.specs.Calls.{box_degree_reply, bijective_reply}
use Rattle.algebraic.specs.Statements.{DegreeReported, degree_rank, Constant, Injective}
use Rattle.algebraic.proofs.Bijections.{bijective_equal}
use Rattle.algebraic.proofs.Sweeping.{degrees_by, in_degrees, mem_degrees, ascending_degrees, degrees_nonempty}

-- ---- the normal form of an accepted table
module _ (n : ℕ) (values : List ℕ) (t : Table n values) where
  bit : (u : ℕ) → Dec (u < 2 ^ n) → at (normal_form n (at values)) u < 2
  bit u (yes l) = subst (λ (k : ℕ). k < 2) (sym (at_normal_form n (at values) u l)) (coefficient_boolean n (at values) u (λ x h. t.bits x))
  bit u (no g) =
      subst (λ (k : ℕ). k < 2)
      (sym (get_or-eq_default (normal_form n (at values)) 0 (omega (arith, length_normal_form n (at values))))) (zero-lt-suc 1)

  -- it is an accepted table itself
  pub form_is_table : Table n (normal_form n (at values))
  form_is_table = record {
    n_low = t.n_low;
    n_high = t.n_high;
    size = length_normal_form n (at values);
    bits = λ u. bit u (dec_lt u (2 ^ n));
  }

-- "the same rule goes back, coefficients being read as truth values.": the second call is accepted, and gives the table again
pub normal_form_back : (n : ℕ) (values : List ℕ) (room : ℕ) → first (table_call_checks n values room) ≡ (Ok tt)
    → (first (table_call_checks n (normal_form n (at values)) room) ≡ (Ok tt)) × (normal_form n (at (normal_form n (at values))) ≡ values)
unfolding table_call_checks
normal_form_back n values room h =
    let t = table n values _ h in
    let p = passed _ (accepted_after (table_checks n values) _ h) in (
      sym (found_after _ (table_accepted n (normal_form n (at values)) (form_is_table n values t)) (skip p.0 end)),
      normal_form_twice n values t.size,
    )

-- ---- the degree of a combination
module _ (n : ℕ) (rows : List ℕ) (c : ℕ) where
  boolean : (x : ℕ) → x < 2 ^ n → component rows c x < 2
  boolean x l = component_lt rows c x

  -- Document 02: "A constant combination has degree 0." And no other has.
  pub constant_combination : (degree n (component rows c) ≡ 0) ↔ Constant n (component rows c)
  constant_combination = (degree_constant n (component rows c) boolean, constant_degree n (component rows c) (component rows c 0))

-- ---- the degree of a box within a limit
module _ (n m : ℕ) (rows : List ℕ) (i : ℕ) where
  abbrev degree_of_mask : ℕ → ℕ
  degree_of_mask c = degree n (component rows c)

  -- no combination has a lower degree
  no_lower : (c : ℕ) → MaskWithin i (2 ^ m) c → (box_degree n m rows i).figure ≤ degree n (component rows c)
  unfolding box_degree degrees
  no_lower c w = first_least_chooses.all (degrees_by degree_of_mask m i) (with_degree n rows c) (in_degrees degree_of_mask m i c w)

  -- ---- of an accepted box and limit
  module _ (accepted : first (limit_checks n m rows i) ≡ (Ok tt)) where
    accepted_box : Limited n m rows i
    accepted_box = limited n m rows i accepted

    nonempty : (p : Candidate) × (ps : List Candidate) × (degrees_by degree_of_mask m i ≡ p ∷ ps)
    nonempty = degrees_nonempty degree_of_mask m i accepted_box.box.m_low accepted_box.i_low

    -- a combination has it
    has_it : (c : ℕ) × MaskWithin i (2 ^ m) c × (box_degree n m rows i ≡ with_degree n rows c)
    unfolding box_degree degrees
    has_it =
        let t = nonempty in
        mem_degrees degree_of_mask m i (box_degree n m rows i) (first_least_chooses.mem t.2)

    -- and each combination before it has a higher one
    higher : (c : ℕ) → box_degree n m rows i ≡ with_degree n rows c → (c' : ℕ) → MaskWithin i (2 ^ m) c' → MaskBefore c' c → (box_degree n m rows i).figure < degree n (component rows c')
    unfolding box_degree degrees
    higher c e c' w l =
        let t = nonempty in
        first_ranked (degree_rank m) (λ r p. r.figure < p.figure) (ascending_degrees degree_of_mask m i)
        (first_least_chooses.early t.2) (with_degree n rows c') (in_degrees degree_of_mask m i c' w) (omega (arith, ap (degree_rank m) e, rank_of_before m c' c w.high l))

    -- Document 02: "The box's degree becomes that least value, with the first combination that has it." Of the "combinations of at most i outputs".
    pub degree_reported : DegreeReported n m rows i
    degree_reported =
        let t = has_it in
        record {
          d = (box_degree n m rows i).figure;
          c = t.0;
          reply = sym (reply_accepted accepted (shown (box_degree n m rows i)))
              ∙ ap (λ (p : Candidate). figures ((box_degree n m rows i).figure ∷ p.witness)) t.2;
          least = no_lower;
          member = t.1;
          reached = sym (ap (λ (p : Candidate). p.figure) t.2);
          before = higher t.0 t.2;
        }

-- ---- of a reply
module _ (n m : ℕ) (rows : List ℕ) (i d : ℕ) (v : List ℕ) (e : box_degree_reply n m rows i ≡ figures (d ∷ v)) where
  replied : DegreeReported n m rows i
  replied = degree_reported n m rows i (figures_accepted (first (limit_checks n m rows i)) (shown (box_degree n m rows i)) e).0

  -- the degree is at most n
  pub degree_at_most : d ≤ n
  degree_at_most = let r = replied in omega (arith, same_figure r.reply e, r.reached, degree_le n (component rows r.c))

  -- Two criteria tied together, within the same limit: the degree is at most 1 exactly when the nonlinearity is 0. For a combination of degree 1 or 0
  -- is an affine function, and one that differs from an affine function at no input is that function.
  pub degree_and_nonlinearity : (k : ℕ) (w : List ℕ) → nonlinearity_reply n m rows i ≡ figures (k ∷ w) → (d ≤ 1) ↔ (k ≡ 0)
  degree_and_nonlinearity k w f =
      let r = replied in
      let same = same_figure r.reply e in
      let t = figures_accepted (first (limit_checks n m rows i)) (shown (nonlinearity n m rows i)) f in
      let within = limited n m rows i t.0 in (
        λ h.
            let f = component rows r.c in
            let s = degree_affine n f (boolean n rows r.c) (omega (arith, same, r.reached)) in
            let least = linear.nonlinearity_least n m rows i r.c s.0 s.1 (record { mask = r.member; w_high = s.2; b_high = s.3 }) in
            omega (arith, head_same t.1, distance_none n f s.0 s.1 s.4),
        λ z.
            let p = linear.nonlinearity_reached n m rows i within.box.m_low within.i_low in
            let f = component rows p.0 in
            let none : distance n f p.1 p.2 ≡ 0 = omega (arith, ap (λ (p : Candidate). p.figure) p.4, head_same t.1) in
            omega (
              arith,
              same,
              r.least p.0 p.3.mask,
              affine_degree n f p.1 p.2 p.3.w_high (distance_same n f p.1 p.2 none),
            ),
      )

-- "cover combinations of at most i outputs": a wider limit covers more, so that the degree is no larger
pub degree_falls : (n m : ℕ) (rows : List ℕ) (i j : ℕ) → i ≤ j → (d e : ℕ) (v w : List ℕ)
    → box_degree_reply n m rows i ≡ figures (d ∷ v) → box_degree_reply n m rows j ≡ figures (e ∷ w) → e ≤ d
degree_falls n m rows i j wider d e v w p q =
    let r = replied n m rows i d v p in
    let s = replied n m rows j e w q in
    omega (arith, s.least r.c (within_more wider r.member), r.reached, same_figure r.reply p, same_figure s.reply q)

-- ---- a bijective box
module _ (n m : ℕ) (rows : List ℕ) (size : length rows ≡ 2 ^ n) where
  injective : distinct eqb rows ≡ true → Injective n rows
  injective d x y hx hy e = go (dec_lt x y) (dec_lt y x)
    where
      go : Dec (x < y) → Dec (y < x) → x ≡ y
      go (yes l) q = absurd (distinct_at rows d x y l (omega arith) e)
      go (no p) (yes l) = absurd (distinct_at rows d y x l (omega arith) (sym e))
      go (no p) (no q) = omega arith

  -- exactly where n = m and two inputs with equal rows are equal
  pub bijective_iff : (bijective n m rows ≡ true) ↔ ((n ≡ m) × Injective n rows)
  unfolding bijective
  bijective_iff = (
    λ b. let p = both (eqb n m) (distinct eqb rows) b in (eqb-true n m p.0, injective p.1),
    λ p.
        bijective_equal n m rows p.0
        ∙ distinct_of rows (λ x y l h e. let same : x ≡ y = p.1 x y (omega arith) (omega arith) e in omega arith),
  )

-- "Bijective: n = m and no two rows equal." The reply is 1 for yes.
pub bijective_exactly : (n m : ℕ) (rows : List ℕ) (d : ℕ) → bijective_reply n m rows ≡ figures (d ∷ [])
    → (d ≡ 1) ↔ ((n ≡ m) × Injective n rows)
bijective_exactly n m rows d e =
    let t = figures_accepted (first (box_checks n m rows)) (as_figure (bijective n m rows)) e in
    Iff.trans (figure_true (bijective n m rows) t.1) (bijective_iff n m rows (box n m rows [] t.0).size)
