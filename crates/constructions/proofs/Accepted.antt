-- What the checks of the three constructions say where they accept a call. Assumes nothing.
use Rattle.std.specs.Prelude.{Ok}
use Prim.Native.Nat.{ℕ, suc, ◌+◌, ◌/◌, ◌%◌, ◌^◌, ◌≤◌, ◌<◌}
use mathlib.Core.Path.{◌≡◌}
use mathlib.Core.Bool.{true}
use mathlib.Core.List.{List}
use native.Mathlib.Nat.{le_of_eq, le-suc, le_trans, zero-lt-suc}
use native.Mathlib.Omega.{arith}
use borrow.Author.Tests.{eqb-true, ltb-true}
use lib.Dec.{eqb}
use lib.ListN.{length}
use lib.Pow.{pow_pos, pow_mono}
use Rattle.boolean.specs.Functions.{at}
use Rattle.boolean.proofs.Every.{both}
use Rattle.refusals.specs.Table.{first, in_range, Box, Table}
use Rattle.refusals.proofs.Bounds.{range_low, range_high, below_at}
use Rattle.refusals.proofs.Checks.{passed}
use Rattle.constructions.specs.BentForm.{is_permutation}
use Rattle.constructions.specs.Calls.{column_checks, enlarge_checks, bent_checks}
use Rattle.constructions.specs.Work.{EnlargesColumn, EnlargesBox, MakesBent}

pub column_accepts : (n : ℕ) (table : List ℕ) (k a room : ℕ) → first (column_checks n table k a room) ≡ (Ok tt)
    → EnlargesColumn n table k a × (room ≡ 2 ^ suc n)
unfolding column_checks
column_accepts n table k a room h =
    let p = passed _ h in (
      record {
        widths = record { n_high = range_high 1 7 n p.0; k_low = range_low 1 n k p.1.1.1.0; k_high = range_high 1 n k p.1.1.1.0 };
        size = eqb-true (length table) (2 ^ n) p.1.0;
        a_bit = ltb-true a 2 p.1.1.1.1.0;
      },
      eqb-true room (2 ^ suc n) p.1.1.1.1.1.0,
    )

pub box_accepts : (n : ℕ) (rows table : List ℕ) (k room : ℕ) → first (enlarge_checks n rows table k room) ≡ (Ok tt)
    → EnlargesBox n rows table k × (room ≡ 2 ^ suc n)
unfolding enlarge_checks
box_accepts n rows table k room h =
    let p = passed _ h in
    let q = p.1.1.1 in (
      record {
        widths = record { n_high = range_high 1 7 n p.0; k_low = range_low 1 n k q.1.1.0; k_high = range_high 1 n k q.1.1.0 };
        rows_size = eqb-true (length rows) (2 ^ n) p.1.0;
        table_size = eqb-true (length table) (2 ^ n) p.1.1.0;
        rows_below = below_at (2 ^ n) rows (pow_pos n) q.0;
        bits = below_at 2 table (zero-lt-suc 1) q.1.0;
      },
      eqb-true room (2 ^ suc n) q.1.1.1.0,
    )

pub bent_accepts : (n : ℕ) (permutation table : List ℕ) (room : ℕ) → first (bent_checks n permutation table room) ≡ (Ok tt)
    → MakesBent (n / 2) permutation table × (n / 2 + n / 2 ≡ n) × (room ≡ 2 ^ n)
unfolding bent_checks
bent_accepts n permutation table room h =
    let p = passed _ h in
    let width = both (in_range 2 8 n) (eqb (n % 2) 0) p.0 in
    let high : n ≤ 8 = range_high 2 8 n width.0 in
    let even : n % 2 ≡ 0 = eqb-true (n % 2) 0 width.1 in (
      record {
        h_high = omega arith;
        permutation_size = eqb-true (length permutation) (2 ^ (n / 2)) p.1.0;
        table_size = eqb-true (length table) (2 ^ (n / 2)) p.1.1.0;
      },
      omega arith,
      eqb-true room (2 ^ n) p.1.1.1.1.1.0,
    )

-- What the theorems ask of an accepted call.

-- the column is a truth table
pub column_table : (n : ℕ) (table : List ℕ) (k a room : ℕ) → first (column_checks n table k a room) ≡ (Ok tt) → Table n table
unfolding column_checks
column_table n table k a room h =
    let p = passed _ h in
    let high : n ≤ 7 = range_high 1 7 n p.0 in
    record {
      n_low = range_low 1 7 n p.0;
      n_high = omega arith;
      size = eqb-true (length table) (2 ^ n) p.1.0;
      bits = below_at 2 table (zero-lt-suc 1) p.1.1.0;
    }

-- the rows are a box of as many outputs as inputs, and the table beside them is a truth table
pub box_and_table : (n : ℕ) (rows table : List ℕ) (k room : ℕ) → first (enlarge_checks n rows table k room) ≡ (Ok tt) → Box n n rows × Table n table
box_and_table n rows table k room h =
    let e = (box_accepts n rows table k room h).0 in
    let low : 1 ≤ n = le_trans e.widths.k_low e.widths.k_high in
    let high : n ≤ 8 = le_trans e.widths.n_high (le-suc 7) in (
      record {
        n_low = low;
        n_high = high;
        m_low = low;
        m_high = omega arith;
        size = e.rows_size;
        small = le_trans (le_of_eq e.rows_size) (pow_mono high);
        below = e.rows_below;
      },
      record { n_low = low; n_high = high; size = e.table_size; bits = e.bits },
    )

-- the bent form's width, its permutation, and its table, whose entries are bits
pub record AcceptedBent (n : ℕ) (permutation table : List ℕ) : Type 0 where
  pub n_low : 2 ≤ n
  pub n_high : n ≤ 8
  pub permutes : is_permutation (2 ^ (n / 2)) permutation ≡ true
  pub bits : (x : ℕ) → at table x < 2

pub bent_parts : (n : ℕ) (permutation table : List ℕ) (room : ℕ) → first (bent_checks n permutation table room) ≡ (Ok tt) → AcceptedBent n permutation table
unfolding bent_checks
bent_parts n permutation table room h =
    let p = passed _ h in
    let width = both (in_range 2 8 n) (eqb (n % 2) 0) p.0 in
    record {
      n_low = range_low 2 8 n width.0;
      n_high = range_high 2 8 n width.0;
      permutes = p.1.1.1.1.0;
      bits = below_at 2 table (zero-lt-suc 1) p.1.1.1.0;
    }
