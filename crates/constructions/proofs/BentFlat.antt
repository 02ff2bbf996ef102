-- The Maiorana-McFarland form of 2h inputs is bent, so its nonlinearity is 2^(2h − 1) − 2^(h − 1).
use mathlib.Core.Path.{◌≡◌, sym, ap, ap₂, ◌∙◌, subst}
use mathlib.Core.Logic.{◌⊎◌}
use mathlib.Core.Bool.{true}
use mathlib.Core.List.{List}
use Prim.Native.Nat.{ℕ, zero, suc, ◌+◌, ◌*◌, ◌-◌, ◌/◌, ◌%◌, ◌^◌, ◌<◌, ◌≤◌}
use native.Mathlib.Nat.{le_of_eq, le_refl, le_trans, mod-lt, mul-le-mul, mul-one, two-pow-succ}
use native.Mathlib.Omega.{arith}
use borrow.Author.Tests.{ltb-true}
use lib.Bits.{bit_xor, xor_lt}
use lib.Dec.{eqb, ltb}
use lib.IntN.{ℤ, pos, ◌*ℤ◌, neg_ℤ, nat_abs}
use lib.ListN.{length}
use lib.Pow.{high, low, pow-add, pow_pos, shr_lt, split}
use Rattle.boolean.specs.Bits.{dot}
use Rattle.boolean.specs.Functions.{Bent, Boolean, approximation, at, component, same_value, sign, square, transform, walsh}
use Rattle.boolean.specs.Sums.{distinct, sum_below}
use Rattle.boolean.proofs.Approximations.{approximation_cong}
use Rattle.boolean.proofs.Bent.{bent_of_squares}
use Rattle.boolean.proofs.Cases.{all5, same_value_lem}
use Rattle.boolean.proofs.Columns.{component_column}
use Rattle.boolean.proofs.Counts.{even_is_square, pow_square}
use Rattle.boolean.proofs.Distinct.{distinct_at}
use Rattle.boolean.proofs.Dots.{dot_bit, dot_xor, dot_parts}
use Rattle.boolean.proofs.Every.{both, every_at}
use Rattle.boolean.proofs.Lists.{get_or_list_below}
use Rattle.boolean.proofs.Sizes.{transform_bound, single_bound}
use Rattle.boolean.proofs.Sums.{sum_cong, sum_blocks}
use Rattle.boolean.proofs.Transform.{signs_cancel}
use Rattle.boolean.proofs.Walsh.{walsh_cong, walsh_transform}
use Rattle.boolean.proofs.Xor.{xor_cancel}
use Rattle.refusals.specs.Table.{all_below}
use Rattle.linear.specs.Nonlinearity.{nonlinearity}
use Rattle.linear.proofs.Theorems.{covering_bound, covering_equality}
use Rattle.constructions.specs.BentForm.{bent_form, bent_table, is_permutation}
use Rattle.constructions.proofs.Avalanche.{table_column}

-- a sign has size 1
sign_small : (b : ℕ) → nat_abs (sign b) ≤ 1
unfolding sign
sign_small zero = le_refl 1
sign_small (suc b) = le_refl 1

-- the signs of four bits, two and two, grouped another way
signs_regroup : (A B P G : ℕ) → A < 2 → B < 2 → P < 2 → G < 2 → sign (bit_xor A B) *ℤ sign (bit_xor P G) ≡ sign (bit_xor P B) *ℤ sign (bit_xor A G)
unfolding sign
signs_regroup A B P G hA hB hP hG = same_value_lem (sign (bit_xor A B) *ℤ sign (bit_xor P G)) (sign (bit_xor P B) *ℤ sign (bit_xor A G))
    (all5 (λ A B P G z. same_value (sign (bit_xor A B) *ℤ sign (bit_xor P G)) (sign (bit_xor P B) *ℤ sign (bit_xor A G))) tt A B P G 0 hA hB hP hG (omega arith))

-- ---- the form
module _ (h : ℕ) (permutation table : List ℕ) where
  -- its value at input x × 2^h + y
  pub bent_form_at : (x y : ℕ) → y < 2 ^ h → bent_form h permutation table (x * 2 ^ h + y) ≡ bit_xor (dot (at permutation x) y) (at table x)
  unfolding bent_form
  bent_form_at x y l = ap₂ (λ (q r : ℕ). bit_xor (dot (at permutation q) r) (at table q)) (high x h l) (low x h l)

  -- the table's entries
  pub at_bent_table : (z : ℕ) → z < 2 ^ (h + h) → at (bent_table (h + h) permutation table) z ≡ bent_form h permutation table z
  unfolding bent_table
  at_bent_table z l =
      let half : (h + h) / 2 ≡ h = omega arith in
      get_or_list_below (2 ^ (h + h)) (λ z. bent_form ((h + h) / 2) permutation table z) z 0 l ∙ ap (λ (i : ℕ). bent_form i permutation table z) half

  module _ (size : length permutation ≡ 2 ^ h) (p : is_permutation (2 ^ h) permutation ≡ true) (bits : Boolean h (at table)) where
    -- what the test of a permutation says
    tests : (all_below (2 ^ h) permutation ≡ true) × (distinct eqb permutation ≡ true)
    unfolding is_permutation
    tests = both (all_below (2 ^ h) permutation) (distinct eqb permutation) p

    -- its entries are below 2^h
    entry_lt : (x : ℕ) → x < 2 ^ h → at permutation x < 2 ^ h
    entry_lt x l = ltb-true (at permutation x) (2 ^ h) (every_at (λ v. ltb v (2 ^ h)) 0 permutation tests.0 x (omega arith))

    -- and no two are equal
    entries_differ : (x y : ℕ) → x < y → y < 2 ^ h → at permutation x ≡ at permutation y → ⊥
    entries_differ x y l m = distinct_at permutation tests.1 x y l (omega arith)

    -- the upper half of an input's bits is below 2^h
    outer : (z : ℕ) → z < 2 ^ (h + h) → z / 2 ^ h < 2 ^ h
    outer z l = shr_lt h h l

    -- its values are bits
    pub bent_form_boolean : Boolean (h + h) (bent_form h permutation table)
    unfolding bent_form
    bent_form_boolean z l = xor_lt 1 (dot (at permutation (z / 2 ^ h)) (z % 2 ^ h)) (at table (z / 2 ^ h)) (dot_bit (at permutation (z / 2 ^ h)) (z % 2 ^ h)) (bits (z / 2 ^ h) (outer z l))

    -- so are the table's entries
    pub table_boolean : Boolean (h + h) (at (bent_table (h + h) permutation table))
    table_boolean z l = subst (λ (v : ℕ). v < 2) (sym (at_bent_table z l)) (bent_form_boolean z l)

    -- the part of a Walsh value that one x gives
    part : (u v x : ℕ) → ℤ
    part u v x = transform h (λ y. sign (bit_xor (dot u x) (at table x))) (bit_xor (at permutation x) v)

    -- the terms of one x make its part
    block : (u v : ℕ) → v < 2 ^ h → (x : ℕ) → x < 2 ^ h
        → sum_below (2 ^ h) (λ y. sign (dot (u * 2 ^ h + v) (x * 2 ^ h + y)) *ℤ sign (bent_form h permutation table (x * 2 ^ h + y))) ≡ part u v x
    unfolding part transform
    block u v hv x l = sum_cong (2 ^ h) _ _ (λ y m.
        ap₂ (λ (a b : ℕ). sign a *ℤ sign b) (dot_parts h u x v y hv m) (bent_form_at x y m)
        ∙ signs_regroup (dot u x) (dot v y) (dot (at permutation x) y) (at table x) (dot_bit u x) (dot_bit v y) (dot_bit (at permutation x) y) (bits x l)
        ∙ ap (λ (b : ℕ). sign b *ℤ sign (bit_xor (dot u x) (at table x))) (sym (dot_xor (at permutation x) v y)))

    -- a Walsh value is the sum of the parts
    in_parts : (u v : ℕ) → v < 2 ^ h → walsh (h + h) (bent_form h permutation table) (u * 2 ^ h + v) ≡ sum_below (2 ^ h) (λ x. part u v x)
    unfolding transform
    in_parts u v hv =
        let F : ℕ → ℤ = λ z. sign (dot (u * 2 ^ h + v) z) *ℤ sign (bent_form h permutation table z) in
        walsh_transform (h + h) (bent_form h permutation table) (u * 2 ^ h + v) bent_form_boolean
        ∙ ap (λ (k : ℕ). sum_below k F) (pow-add 2 h h) ∙ sum_blocks (2 ^ h) (2 ^ h) F ∙ sum_cong (2 ^ h) _ _ (λ x l. block u v hv x l)

    -- only the x at which the permutation gives v has a part that is not 0, so the sum is at most 2^h in size
    parts_small : (u v : ℕ) → v < 2 ^ h → nat_abs (sum_below (2 ^ h) (λ x. part u v x)) ≤ 2 ^ h
    unfolding part
    parts_small u v hv = single_bound (2 ^ h) (2 ^ h) v (at permutation) (λ x. part u v x)
        (λ x l. le_trans (transform_bound h 1 (λ y. sign (bit_xor (dot u x) (at table x))) (bit_xor (at permutation x) v) (λ y m. sign_small (bit_xor (dot u x) (at table x)))) (le_of_eq (mul-one (2 ^ h))))
        (λ x l g. le_of_eq (ap nat_abs (signs_cancel h (sign (bit_xor (dot u x) (at table x))) (bit_xor (at permutation x) v) (xor_lt h (at permutation x) v (entry_lt x l) hv)
        (λ q. g (sym (xor_cancel (at permutation x) v) ∙ ap (λ (z : ℕ). bit_xor z v) q)))))
        entries_differ

    -- so is every Walsh value
    walsh_small : (w : ℕ) → nat_abs (walsh (h + h) (bent_form h permutation table) w) ≤ 2 ^ h
    walsh_small w =
        let l : w % 2 ^ h < 2 ^ h = mod-lt w (pow_pos h) in
        subst (λ (z : ℤ). nat_abs z ≤ 2 ^ h) (sym (in_parts (w / 2 ^ h) (w % 2 ^ h) l) ∙ ap (walsh (h + h) (bent_form h permutation table)) (split w h))
        (parts_small (w / 2 ^ h) (w % 2 ^ h) l)

    -- the form is bent
    pub table_bent : 1 ≤ h → Bent (h + h) (at (bent_table (h + h) permutation table))
    unfolding square
    table_bent lo = bent_of_squares (h + h) (at (bent_table (h + h) permutation table)) (omega arith) table_boolean (λ w l.
        let s : nat_abs (walsh (h + h) (at (bent_table (h + h) permutation table)) w) ≤ 2 ^ h =
        subst (λ (z : ℤ). nat_abs z ≤ 2 ^ h) (sym (walsh_cong (h + h) _ _ w at_bent_table)) (walsh_small w) in
        le_trans (mul-le-mul s s) (le_of_eq (even_is_square h)))

    -- every value of its spectrum is 2^(h−1) or −2^(h−1)
    pub table_flat : 1 ≤ h → (w : ℕ) → w < 2 ^ (h + h)
        → (approximation (h + h) (at (bent_table (h + h) permutation table)) w ≡ pos (2 ^ (h - 1)))
        ⊎ (approximation (h + h) (at (bent_table (h + h) permutation table)) w ≡ neg_ℤ (pos (2 ^ (h - 1))))
    table_flat lo w l =
        let bent = table_bent lo in
        let same : bent.half ≡ h = omega (arith, bent.even) in
        let value = approximation (h + h) (at (bent_table (h + h) permutation table)) w in
        subst (λ (i : ℕ). (value ≡ pos (2 ^ (i - 1))) ⊎ (value ≡ neg_ℤ (pos (2 ^ (i - 1))))) same (bent.flat w l)

-- ---- the nonlinearity of a bent table
component_one : (table : List ℕ) (x : ℕ) → at table x < 2 → at table x ≡ component table 1 x
component_one table x b = sym (component_column table 1 x ∙ table_column table x b)

module _ (h : ℕ) (table : List ℕ) (lo : 1 ≤ h) (bits : Boolean (h + h) (at table)) (b : Bent (h + h) (at table)) where
  -- its one component is bent
  component_bent : Bent (h + h) (component table 1)
  component_bent = record {
    half = b.half;
    even = b.even;
    flat = λ w l.
        subst (λ (z : ℤ). (z ≡ pos (2 ^ (b.half - 1))) ⊎ (z ≡ neg_ℤ (pos (2 ^ (b.half - 1)))))
        (approximation_cong (h + h) (at table) (component table 1) w (λ x m. component_one table x (bits x m))) (b.flat w l);
  }

  -- its nonlinearity is 2^(n − 1) − 2^(n / 2 − 1)
  pub bent_nonlinearity : (nonlinearity (h + h) 1 table 1).figure ≡ 2 ^ (h + h - 1) - 2 ^ (h - 1)
  bent_nonlinearity =
      let met = (covering_equality (h + h) 1 table 1 (le_refl 1) (le_refl 1) (omega arith)).1
      (λ c w. let one : 1 ≡ c = omega (arith, w.low, w.high) in subst (λ (c : ℕ). Bent (h + h) (component table c)) one component_bent) in
      let t = pow_square (h + h) (2 ^ (h + h) - 2 * (nonlinearity (h + h) 1 table 1).figure) met in
      let same : t.0 ≡ h = omega (arith, t.1) in
      let left : 2 ^ (h + h) - 2 * (nonlinearity (h + h) 1 table 1).figure ≡ 2 ^ h = t.2 ∙ ap (λ (i : ℕ). 2 ^ i) same in
      let whole : h + h ≡ suc (h + h - 1) = omega arith in
      let part : h ≡ suc (h - 1) = omega arith in
      let twice_whole : 2 ^ (h + h) ≡ 2 ^ (h + h - 1) + 2 ^ (h + h - 1) = ap (λ (i : ℕ). 2 ^ i) whole ∙ two-pow-succ (h + h - 1) in
      let twice_part : 2 ^ h ≡ 2 ^ (h - 1) + 2 ^ (h - 1) = ap (λ (i : ℕ). 2 ^ i) part ∙ two-pow-succ (h - 1) in
      omega (arith, (covering_bound (h + h) 1 table 1 (le_refl 1) (le_refl 1)).0)

-- so of the form
pub table_nonlinearity : (h : ℕ) (permutation table : List ℕ) → length permutation ≡ 2 ^ h → is_permutation (2 ^ h) permutation ≡ true → Boolean h (at table) → 1 ≤ h
    → (nonlinearity (h + h) 1 (bent_table (h + h) permutation table) 1).figure ≡ 2 ^ (h + h - 1) - 2 ^ (h - 1)
table_nonlinearity h permutation table size p bits lo =
    bent_nonlinearity h (bent_table (h + h) permutation table) lo (table_boolean h permutation table size p bits) (table_bent h permutation table size p bits lo)
