-- Document 02 §8: a box as packed columns, the rows that packed columns stand for, and the checks and outcomes of both calls.
use Rattle.std.specs.Prelude.{Result, ⊤, ℕ, ◌+◌, ◌-◌, ◌*◌, ◌/◌, ◌%◌, ◌^◌, min, max, List, [], ◌∷◌, ◌++◌, eqb, length}
use Rattle.refusals.specs.declared.Refusal.{Refusal}
use Rattle.boolean.specs.Bits.{bit}
use Rattle.boolean.specs.Sums.{total_below, list_below}
use Rattle.boolean.specs.Functions.{at, column}
use Rattle.refusals.specs.Table.{Check, ◌unless◌, in_range, all_below, box_checks, Wrote, said_written}
use Rattle.refusals.specs.declared.Refusal.TheVariants.{InputWidth, OutputWidth, ReadLength, UnusedBit, WrittenLength}

-- how many bytes a column takes: one for each eight truth values, and one with n below 3
unfoldable pub column_bytes : ℕ → ℕ
column_bytes n = max 1 (2 ^ n / 8)

-- byte k, from 0, of column j: the truth values in input order, eight to a byte, lowest bit first. (Past the last input stands 0.)
unfoldable pub packed_byte : (rows : List ℕ) (j k : ℕ) → ℕ
unfolding total_below column
packed_byte rows j k = total_below 8 (λ t. column rows j (8 * k + t) * 2 ^ t)

-- the packed form: the bytes of column 1 first, of column m last
unfoldable pub packed : (n m : ℕ) (rows : List ℕ) → List ℕ
unfolding list_below packed_byte column_bytes
packed n m rows = list_below (m * column_bytes n) (λ p. packed_byte rows (p / column_bytes n + 1) (p % column_bytes n))

-- the truth value of column j at input x that packed bytes hold
unfoldable pub packed_value : (n : ℕ) (bytes : List ℕ) (j x : ℕ) → ℕ
unfolding bit column_bytes
packed_value n bytes j x = bit (x % 8 + 1) (at bytes ((j - 1) * column_bytes n + x / 8))

-- row x of packed bytes: its bit j is the truth value of column j at x
unfoldable pub unpacked_row : (n m : ℕ) (bytes : List ℕ) (x : ℕ) → ℕ
unfolding total_below packed_value
unpacked_row n m bytes x = total_below m (λ j. packed_value n bytes (j + 1) x * 2 ^ j)

-- the rows of packed bytes
unfoldable pub unpacked : (n m : ℕ) (bytes : List ℕ) → List ℕ
unfolding list_below unpacked_row
unpacked n m bytes = list_below (2 ^ n) (λ x. unpacked_row n m bytes x)

-- how many bits of a byte are used, the lowest: all eight, or with n below 3 one for each input
unfoldable pub used_bits : ℕ → ℕ
used_bits n = min 8 (2 ^ n)

-- the checks of packing: a box's own, then the written array
unfoldable pub pack_checks : (n m : ℕ) (rows : List ℕ) (room : ℕ) → List Check
unfolding column_bytes
pack_checks n m rows room = box_checks n m rows ++ ((WrittenLength unless eqb room (m * column_bytes n)) ∷ [])

-- the checks of unpacking: the widths, the packed array's length, then its unused bits, and the written array
unfoldable pub unpack_checks : (n m : ℕ) (bytes : List ℕ) (room : ℕ) → List Check
unfolding column_bytes used_bits
unpack_checks n m bytes room =
    (InputWidth unless in_range 1 8 n)
    ∷ (OutputWidth unless in_range 1 32 m)
    ∷ (ReadLength unless eqb (length bytes) (m * column_bytes n))
    ∷ (UnusedBit unless all_below (2 ^ used_bits n) bytes)
    ∷ (WrittenLength unless eqb room (2 ^ n))
    ∷ []

-- the outcome of a call of `packing::pack`
abbrev pub PackCalled : (n m : ℕ) (rows lent : List ℕ) (answer : Result ⊤ Refusal) (left : List ℕ) → Type 0
PackCalled n m rows lent answer left = Wrote (pack_checks n m rows (length lent)) [] (packed n m rows) lent (said_written answer) left

-- the outcome of a call of `packing::unpack`
abbrev pub UnpackCalled : (n m : ℕ) (bytes lent : List ℕ) (answer : Result ⊤ Refusal) (left : List ℕ) → Type 0
UnpackCalled n m bytes lent answer left = Wrote (unpack_checks n m bytes (length lent)) [] (unpacked n m bytes) lent (said_written answer)
    left
