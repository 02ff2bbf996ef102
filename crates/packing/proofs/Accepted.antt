-- What the checks of both calls say where they accept, and back. Assumes nothing.
use Rattle.std.specs.Prelude.{Ok}
use Prim.Native.Nat.{ℕ, ◌*◌, ◌^◌, ◌≤◌, ◌<◌}
use mathlib.Core.Path.{◌≡◌, sym}
use mathlib.Core.List.{List}
use native.Mathlib.Nat.{mul-le-mul}
use native.Mathlib.Decide.{dec_lt}
use native.Mathlib.Omega.{arith}
use borrow.Author.Tests.{eqb-true, eq-eqb}
use lib.ListN.{length, replicate, length-replicate, get_or-replicate, get_or-eq_default}
use lib.Pow.{pow_pos}
use Rattle.boolean.specs.Functions.{at}
use Rattle.refusals.specs.Table.{first, box_checks, Box}
use Rattle.refusals.proofs.Bounds.{range_low, range_high, range_true, below_at, below_true}
use Rattle.refusals.proofs.Checks.{box, box_accepted, passed, accepted, accepted_after, found_after, skip, end}
use Rattle.packing.specs.Packing.{column_bytes, used_bits, pack_checks, unpack_checks}
use Rattle.packing.specs.Work.{Columns, Cleared}

-- packing: a box, and the packed form's length
pub pack_box : (n m : ℕ) (rows : List ℕ) (room : ℕ) → first (pack_checks n m rows room) ≡ (Ok tt) → Box n m rows
unfolding pack_checks
pack_box n m rows room h = box n m rows _ h

pub pack_room : (n m : ℕ) (rows : List ℕ) (room : ℕ) → first (pack_checks n m rows room) ≡ (Ok tt) → room ≡ m * column_bytes n
unfolding pack_checks
pack_room n m rows room h = eqb-true room (m * column_bytes n) (passed _ (accepted_after (box_checks n m rows) _ h)).0

pub pack_accepted : (n m : ℕ) (rows : List ℕ) (room : ℕ) → Box n m rows → room ≡ m * column_bytes n → first (pack_checks n m rows room) ≡ (Ok tt)
unfolding pack_checks
pack_accepted n m rows room b e = sym (found_after _ (box_accepted n m rows b) (skip (eq-eqb room (m * column_bytes n) e) end))

-- unpacking: packed columns, and as many rows as there are inputs
pub unpack_columns : (n m : ℕ) (bytes : List ℕ) (room : ℕ) → first (unpack_checks n m bytes room) ≡ (Ok tt) → Columns n m bytes
unfolding unpack_checks
unpack_columns n m bytes room h =
    let p = passed _ h in
    record {
      n_low = range_low 1 8 n p.0;
      n_high = range_high 1 8 n p.0;
      m_low = range_low 1 32 m p.1.0;
      m_high = range_high 1 32 m p.1.0;
      size = eqb-true (length bytes) (m * column_bytes n) p.1.1.0;
      used = below_at (2 ^ used_bits n) bytes (pow_pos (used_bits n)) p.1.1.1.0;
    }

pub unpack_room : (n m : ℕ) (bytes : List ℕ) (room : ℕ) → first (unpack_checks n m bytes room) ≡ (Ok tt) → room ≡ 2 ^ n
unfolding unpack_checks
unpack_room n m bytes room h = eqb-true room (2 ^ n) (passed _ h).1.1.1.1.0

pub unpack_accepted : (n m : ℕ) (bytes : List ℕ) (room : ℕ) → Columns n m bytes → room ≡ 2 ^ n → first (unpack_checks n m bytes room) ≡ (Ok tt)
unfolding unpack_checks
unpack_accepted n m bytes room c e =
    accepted _ (
      range_true 1 8 n c.n_low c.n_high,
      (
        range_true 1 32 m c.m_low c.m_high,
        (eq-eqb (length bytes) (m * column_bytes n) c.size, (below_true (2 ^ used_bits n) bytes (λ p l. c.used p), (eq-eqb room (2 ^ n) e, tt))),
      ),
    )

-- the packed form has at most 1,024 bytes
pub bytes_most : (n m size : ℕ) → size ≤ 32 → m ≤ 32 → m * size ≤ 1024
bytes_most n m size h l = mul-le-mul l h

-- a new array is 0
pub cleared : (k : ℕ) → Cleared k (replicate k 0)
cleared k = record { long = length-replicate {A = ℕ} k 0; none = λ x. pick x (dec_lt x k) }
  where
    pick : (x : ℕ) → Dec (x < k) → at (replicate k 0) x ≡ 0
    pick x (yes l) = get_or-replicate k x 0 0 l
    pick x (no l) = get_or-eq_default (replicate k 0) 0 (let ge : length (replicate {A = ℕ} k 0) ≤ x = omega (arith, length-replicate {A = ℕ} k 0) in ge)
