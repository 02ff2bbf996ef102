-- An affine function added to a column: what it does to a row, to each component and to the box.
use Rattle.std.specs.Prelude.{Result, Ok, Err, ⊤}
use Rattle.refusals.specs.declared.Refusal.{Refusal}
use mathlib.Core.Path.{◌≡◌, refl, sym, ap, ap₂, ◌∙◌, subst}
use mathlib.Core.Logic.{◌≢◌}
use mathlib.Core.List.{List}
use Prim.Native.Nat.{ℕ, ◌+◌, ◌*◌, ◌-◌, ◌^◌, ◌<◌, ◌≤◌}
use native.Mathlib.Nat.{le_trans, le_of_eq, mul-zero, mul-one}
use native.Mathlib.Omega.{arith}
use native.Mathlib.Decide.{dec_lt}
use lib.Pow.{pow_pos, pow_mono, shl_lt}
use lib.Bits.{bit_xor, xor_lt, xor_zero_r}
use lib.ListN.{length, get_or-eq_default}
use Rattle.boolean.specs.Bits.{affine, bit, dot}
use Rattle.boolean.specs.Functions.{at, component}
use Rattle.boolean.proofs.Lists.{length_list_below, get_or_list_below}
use Rattle.boolean.proofs.Dots.{bit_cases, dot_xor}
use Rattle.boolean.proofs.Digits.{affine_lt, bit_of_xor, bit_placed, bit_placed_other, dot_placed, component_dot}
use Rattle.refusals.specs.Table.{Box, first, after}
use Rattle.columns.proofs.Accepted.{accepts}
use Rattle.columns.specs.Addition.{added_row, added_rows, addition_checks, Addition, addition_checked, standing_rows}

-- ---- one row: column j of the row at x, with the affine function (w, b)
module _ (j w b x row : ℕ) (hb : b < 2) where
  -- bit j is XORed with the affine function
  pub bit_added : bit j (added_row j w b x row) ≡ bit_xor (bit j row) (affine w b x)
  unfolding added_row
  bit_added = bit_of_xor j row (affine w b x * 2 ^ (j - 1)) ∙ ap (bit_xor (bit j row)) (bit_placed j (affine w b x) (affine_lt w b x hb))

  -- every other bit stays
  pub bit_kept : (i : ℕ) → 1 ≤ i → 1 ≤ j → i ≢ j → bit i (added_row j w b x row) ≡ bit i row
  unfolding added_row
  bit_kept i hi hj e =
      bit_of_xor i row (affine w b x * 2 ^ (j - 1))
      ∙ ap (bit_xor (bit i row)) (bit_placed_other i j (affine w b x) hi hj e (affine_lt w b x hb)) ∙ xor_zero_r (bit i row)

  pub added_row_lt : (m : ℕ) → 1 ≤ j → j ≤ m → row < 2 ^ m → added_row j w b x row < 2 ^ m
  unfolding added_row
  added_row_lt m lo hi h =
      let placed : affine w b x * 2 ^ (j - 1) < 2 ^ (1 + (j - 1)) = shl_lt 1 (j - 1) (affine_lt w b x hb) in
      let fits : 2 ^ (1 + (j - 1)) ≤ 2 ^ m = pow_mono (omega arith) in
      xor_lt m row (affine w b x * 2 ^ (j - 1)) h (omega arith)

-- ---- the rows, and a component of them
module _ (j w b : ℕ) (rows : List ℕ) where
  pub length_added : length (added_rows j w b rows) ≡ length rows
  unfolding added_rows
  length_added = length_list_below (length rows) (λ x. added_row j w b x (at rows x))

  pub row_added : (x : ℕ) → x < length rows → at (added_rows j w b rows) x ≡ added_row j w b x (at rows x)
  unfolding added_rows
  row_added x l = get_or_list_below (length rows) (λ x. added_row j w b x (at rows x)) x 0 l

  module _ (hb : b < 2) (c x : ℕ) (l : x < length rows) where
    pub component_added : component (added_rows j w b rows) c x ≡ bit_xor (component rows c x) (affine w b x * bit j c)
    unfolding added_row
    component_added =
        component_dot (added_rows j w b rows) c x ∙ ap (λ (z : ℕ). dot z c) (row_added x l)
        ∙ dot_xor (at rows x) (affine w b x * 2 ^ (j - 1)) c
        ∙ ap₂ bit_xor (sym (component_dot rows c x)) (dot_placed j (affine w b x) c (affine_lt w b x hb))

    -- a component without the column does not see the addition
    pub component_unseen : bit j c ≡ 0 → component (added_rows j w b rows) c x ≡ component rows c x
    component_unseen e = component_added ∙ ap (λ (t : ℕ). bit_xor (component rows c x) (affine w b x * t)) e
        ∙ ap (bit_xor (component rows c x)) (mul-zero (affine w b x)) ∙ xor_zero_r (component rows c x)

    -- and one with it has the affine function added
    pub component_seen : bit j c ≡ 1 → component (added_rows j w b rows) c x ≡ bit_xor (component rows c x) (affine w b x)
    component_seen e = component_added ∙ ap (λ (t : ℕ). bit_xor (component rows c x) (affine w b x * t)) e
        ∙ ap (bit_xor (component rows c x)) (mul-one (affine w b x))

-- ---- an accepted addition: bit j of every row is XORed with the affine function, and the other bits stay
pub added_bits : (n m : ℕ) (rows : List ℕ) (j w b room : ℕ) → first (addition_checks n m rows j w b room) ≡ (Ok tt) → (x : ℕ) → x < 2 ^ n
    → (bit j (at (added_rows j w b rows) x) ≡ bit_xor (bit j (at rows x)) (affine w b x))
    × ((k : ℕ) → 1 ≤ k → ¬ (k ≡ j) → bit k (at (added_rows j w b rows) x) ≡ bit k (at rows x))
added_bits n m rows j w b room h x l =
    let t = accepts n m rows j w b room h in
    let row = row_added j w b rows x (omega (arith, t.sound.size)) in (
      ap (bit j) row ∙ bit_added j w b x (at rows x) t.b_bit,
      λ k low unlike. ap (bit k) row ∙ bit_kept j w b x (at rows x) t.b_bit k low t.j_low unlike,
    )

-- what its arguments are
pub record Fits (n m : ℕ) (a : Addition) : Type 0 where
  pub column_low : 1 ≤ a.column
  pub column_high : a.column ≤ m
  pub mask_high : a.mask < 2 ^ n
  pub constant_high : a.constant < 2
  pub room : length a.lent ≡ 2 ^ n

pub accepted_fits : (n m : ℕ) (rows : List ℕ) (a : Addition) → addition_checked n m rows a ≡ (Ok tt) → Fits n m a
unfolding addition_checked
accepted_fits n m rows a h =
    let r = accepts n m rows a.column a.mask a.constant (length a.lent) h in
    record { column_low = r.j_low; column_high = r.j_high; mask_high = r.w_below; constant_high = r.b_bit; room = r.room_is }

pub times_lt : (k v t : ℕ) → v < k → t < 2 → v * t < k
times_lt k v t h = bit_cases (λ t. v * t < k) (omega (arith, mul-zero v)) (omega (arith, mul-one v)) t

-- the new rows of an addition
abbrev pub rows_with : Addition → List ℕ → List ℕ
rows_with a rows = added_rows a.column a.mask a.constant rows

module _ (n m : ℕ) (rows : List ℕ) (box : Box n m rows) (a : Addition) (fits : Fits n m a) where
  added_below : (x : ℕ) → Dec (x < length rows) → at (rows_with a rows) x < 2 ^ m
  added_below x (yes l) =
      subst (λ (z : ℕ). z < 2 ^ m) (sym (row_added a.column a.mask a.constant rows x l))
      (added_row_lt a.column a.mask a.constant x (at rows x) fits.constant_high m fits.column_low fits.column_high (box.below x))
  added_below x (no l) =
      let past : length (rows_with a rows) ≤ x = omega (arith, length_added a.column a.mask a.constant rows) in
      subst (λ (z : ℕ). z < 2 ^ m) (sym (get_or-eq_default (rows_with a rows) 0 past)) (pow_pos m)

  -- the new rows are a box
  pub addition_keeps_box : Box n m (rows_with a rows)
  addition_keeps_box =
      let long : length (rows_with a rows) ≡ length rows = length_added a.column a.mask a.constant rows in
      record {
        n_low = box.n_low;
        n_high = box.n_high;
        m_low = box.m_low;
        m_high = box.m_high;
        size = long ∙ box.size;
        small = le_trans (le_of_eq long) box.small;
        below = λ x. added_below x (dec_lt x (length rows));
      }

-- ---- any addition, refused ones included: the standing rows are the new rows of an addition that fits, or the old ones
pub standing_cases : (n m : ℕ) (rows : List ℕ) (a : Addition) (P : List ℕ → Type 0) → (Fits n m a → P (rows_with a rows)) → P rows → P (standing_rows n m rows a)
unfolding standing_rows
standing_cases n m rows a P p q = go (addition_checked n m rows a) (accepted_fits n m rows a)
  where
    go : (k : Result ⊤ Refusal) → (k ≡ (Ok tt) → Fits n m a) → P (after k (rows_with a rows) rows)
    go (Ok tt) f = p (f refl)
    go (Err e) f = q

module _ (n m : ℕ) (rows : List ℕ) (box : Box n m rows) (a : Addition) where
  pub standing_keeps_box : Box n m (standing_rows n m rows a)
  standing_keeps_box = standing_cases n m rows a (Box n m) (addition_keeps_box n m rows box a) box
