-- A step table added to the truth table of a component gives another's; one or two of them lead to the mask that comes next. Assumes nothing.
use mathlib.Core.Path.{◌≡◌, sym, ap, ap₂, ◌∙◌, subst}
use mathlib.Core.List.{List}
use Prim.Native.Nat.{ℕ, suc, ◌+◌, ◌*◌, ◌-◌, ◌/◌, ◌%◌, ◌^◌, ◌≤◌, ◌<◌, zero-le}
use native.Mathlib.Nat.{mul-add-div_right, div-eq_of_lt, mul-add-mod_self_right, mod-eq_of_lt, mul-le-mul_right, add-zero, lt_of_lt_of_le, lt_of_le_of_lt, add-sub_cancel_left, suc-mul}
use native.Mathlib.Omega.{arith}
use lib.Bits.{bit_xor, xor_zero_r}
use lib.Count.{count_trailing_zeros}
use lib.ListN.{length, take, drop, length-drop}
use lib.Pow.{pow_mono}
use lib.Seq.{get_or-take, get_or-drop, length-take-le}
use Rattle.boolean.specs.Sums.{list_below}
use Rattle.boolean.specs.Functions.{at, component}
use Rattle.boolean.proofs.Digits.{component_xor}
use Rattle.boolean.proofs.Lists.{length_list_below, get_or_list_below, list_below_cong}
use Rattle.masks.specs.Steps.{mask_of_ones, step_tables, Steps, Stepping}
use Rattle.masks.proofs.Runs.{raised_differs, raised_above, place_short, place_is, run_short}

-- ---- one step table
module _ {m : ℕ} {rows steps : List ℕ} (s : Steps m rows steps) {k : ℕ} (h : k < m) where
  steps_long : length steps ≡ m * length rows
  unfolding step_tables
  steps_long = ap length s.steps_are ∙ length_list_below (m * length rows) _

  -- the place after the step table
  table_end : k * length rows + length rows ≤ m * length rows
  table_end = subst (λ (z : ℕ). z ≤ m * length rows) (suc-mul k (length rows)) (mul-le-mul_right (length rows) h)

  pub step_inside : k * length rows + length rows ≤ length steps
  step_inside = omega (arith, table_end, steps_long)

  -- the part of the step tables that is added
  abbrev pub part : List ℕ
  part = take (k * length rows + length rows - k * length rows) (drop (k * length rows) steps)

  pub part_length : length part ≡ length rows
  part_length =
      let same : k * length rows + length rows - k * length rows ≡ length rows = add-sub_cancel_left (k * length rows) (length rows) in
      length-take-le _ _ (omega (arith, step_inside, length-drop (k * length rows) steps)) ∙ same

  part_entry : (x : ℕ) → x < length rows → at part x ≡ component rows (mask_of_ones k) x
  unfolding step_tables
  part_entry x l =
      let start = k * length rows in
      let same : start + length rows - start ≡ length rows = add-sub_cancel_left start (length rows) in
      let inside : start + x < m * length rows = omega (arith, table_end) in
      let table_number : (start + x) / length rows ≡ k = mul-add-div_right s.some k x ∙ ap (λ (z : ℕ). k + z) (div-eq_of_lt l) ∙ add-zero _ in
      let place : (start + x) % length rows ≡ x = mul-add-mod_self_right k (length rows) x ∙ mod-eq_of_lt l in
      get_or-take (start + length rows - start) (drop start steps) x 0 (omega (arith, same)) ∙ get_or-drop start steps x 0 ∙ ap (λ (t : List ℕ). at t (start + x)) s.steps_are
      ∙ get_or_list_below (m * length rows) (λ i. component rows (mask_of_ones (i / length rows)) (i % length rows)) (start + x) 0 inside
      ∙ ap₂ (λ (j y : ℕ). component rows (mask_of_ones j) y) table_number place

  pub part_added : (table : List ℕ) → list_below (length part) (λ x. bit_xor (at table x) (at part x)) ≡ list_below (length rows) (λ x. bit_xor (at table x) (component rows (mask_of_ones k) x))
  part_added table =
      ap (λ (j : ℕ). list_below j (λ x. bit_xor (at table x) (at part x))) part_length
      ∙ list_below_cong (length rows) _ _ (λ x l. ap (bit_xor (at table x)) (part_entry x l))

-- added to the truth table of component c
pub added_is : (rows : List ℕ) (c k : ℕ) (table : List ℕ) → table ≡ list_below (length rows) (λ x. component rows c x)
    → list_below (length rows) (λ x. bit_xor (at table x) (component rows (mask_of_ones k) x)) ≡ list_below (length rows) (λ x. component rows (bit_xor c (mask_of_ones k)) x)
added_is rows c k table e =
    list_below_cong (length rows) _ _ (λ x l.
    ap (λ (v : ℕ). bit_xor v (component rows (mask_of_ones k) x)) (ap (λ (t : List ℕ). at t x) e ∙ get_or_list_below (length rows) (λ x. component rows c x) x 0 l)
    ∙ component_xor rows c (mask_of_ones k) x)

-- ---- to the mask that comes next
module _ {m : ℕ} {rows steps : List ℕ} {last c : ℕ} {table : List ℕ} (s : Stepping m rows steps last c table) where
  small : c < 2 ^ 64
  small = let few : m ≤ 64 = omega (arith, s.tables.m_high) in lt_of_lt_of_le s.c_high (pow_mono few)

  pub step_above : last < c
  step_above = raised_above s.raised

  pub high_step : count_trailing_zeros 64 c < m
  high_step = run_short 64 c m small (lt_of_le_of_lt zero-le step_above) s.c_high

  pub low_place : count_trailing_zeros 64 (c - last) ≡ s.raised.place
  low_place = place_is s.raised 64 m (omega (arith, s.tables.m_high)) s.c_high

  pub low_short : count_trailing_zeros 64 (c - last) < m
  low_short = omega (arith, low_place, place_short s.raised m s.c_high)

  pub table_long : length table ≡ length rows
  table_long = ap length s.table_is ∙ length_list_below (length rows) _

  differs : bit_xor (bit_xor last (mask_of_ones (count_trailing_zeros 64 c))) (2 ^ count_trailing_zeros 64 (c - last) - 1) ≡ c
  differs = ap (λ (t : ℕ). bit_xor (bit_xor last (mask_of_ones (count_trailing_zeros 64 c))) (2 ^ t - 1)) low_place ∙ raised_differs s.raised 64 small

  -- after the first step table
  module _ {new : List ℕ} (e : new ≡ list_below (length rows) (λ x. bit_xor (at table x) (component rows (mask_of_ones (count_trailing_zeros 64 c)) x))) where
    half_way : new ≡ list_below (length rows) (λ x. component rows (bit_xor last (mask_of_ones (count_trailing_zeros 64 c))) x)
    half_way = e ∙ added_is rows last (count_trailing_zeros 64 c) table s.table_is

    pub new_long : length new ≡ length rows
    new_long = ap length e ∙ length_list_below (length rows) _

    abbrev Wanted : List ℕ → Type 0
    Wanted out = out ≡ list_below (length rows) (λ x. component rows c x)

    -- it is the only one
    pub stepped_once : count_trailing_zeros 64 (c - last) ≡ 0 → Wanted new
    stepped_once z =
        half_way ∙ ap (λ (k : ℕ). list_below (length rows) (λ x. component rows k x))
        (sym (xor_zero_r (bit_xor last (mask_of_ones (count_trailing_zeros 64 c)))) ∙ ap (λ (t : ℕ). bit_xor (bit_xor last (mask_of_ones (count_trailing_zeros 64 c))) (2 ^ t - 1)) (sym z) ∙ differs)

    -- or there is a second
    pub stepped_twice : 0 < count_trailing_zeros 64 (c - last) → {out : List ℕ}
        → out ≡ list_below (length rows) (λ x. bit_xor (at new x) (component rows (mask_of_ones (count_trailing_zeros 64 (c - last) - 1)) x)) → Wanted out
    stepped_twice h {out} q =
        let t = count_trailing_zeros 64 (c - last) in
        let again : suc (t - 1) ≡ t = omega arith in
        let same : mask_of_ones (t - 1) ≡ 2 ^ t - 1 = run_low (t - 1) ∙ ap (λ (j : ℕ). 2 ^ j - 1) again in
        q ∙ added_is rows _ (t - 1) new half_way
        ∙ ap (λ (k : ℕ). list_below (length rows) (λ x. component rows k x)) (ap (bit_xor (bit_xor last (mask_of_ones (count_trailing_zeros 64 c)))) same ∙ differs)
      where
        run_low : (j : ℕ) → mask_of_ones j ≡ 2 ^ suc j - 1
        run_low j = omega arith
