-- The enlarged function, table and box, read in the lower half of the inputs and in the upper; and the columns of the enlarged box.
use mathlib.Core.Path.{◌≡◌, sym, ap, ◌∙◌, subst}
use mathlib.Core.Bool.{Bool, cond}
use mathlib.Core.List.{List}
use Prim.Native.Nat.{ℕ, suc, ◌+◌, ◌*◌, ◌-◌, ◌/◌, ◌%◌, ◌^◌, ◌<◌, ◌≤◌}
use native.Mathlib.Nat.{add_comm, mod-eq_of_lt, two-pow-succ}
use native.Mathlib.Omega.{arith}
use borrow.Author.Tests.{lt-ltb, le-ltb}
use lib.Bits.{bit_xor, xor_lt, xor_shifted, xor_zero_r}
use lib.ListN.{length}
use lib.Pow.{pow_pos, pow-lt, high}
use Rattle.boolean.specs.Bits.{bit}
use Rattle.boolean.specs.Functions.{Boolean, at, column}
use Rattle.boolean.proofs.Digits.{bit_of_xor, bit_placed_other}
use Rattle.boolean.proofs.Dots.{bit_cases}
use Rattle.boolean.proofs.Lists.{length_list_below, get_or_list_below}
use Rattle.boolean.proofs.Transform.{half_cases}
use Rattle.constructions.specs.Enlargement.{enlarged, enlarged_table, enlarged_rows}

-- the bit of an input from 1 to n is below 2^n
pub input_bit_lt : (n k : ℕ) → 1 ≤ k → k ≤ n → 2 ^ (k - 1) < 2 ^ n
input_bit_lt n k lo hi = pow-lt (omega arith)

module _ (n : ℕ) (f : ℕ → ℕ) (k a : ℕ) where
  -- in the lower half it is f
  pub enlarged_lower : (x : ℕ) → x < 2 ^ n → enlarged n f k a x ≡ f x
  unfolding enlarged
  enlarged_lower x l = ap (λ (t : Bool). cond t (f x) (bit_xor (f (bit_xor (x - 2 ^ n) (2 ^ (k - 1)))) a)) (lt-ltb x (2 ^ n) l)

  -- in the upper half it is f with input k changed, and the constant
  pub enlarged_upper : (x : ℕ) → enlarged n f k a (2 ^ n + x) ≡ bit_xor (f (bit_xor x (2 ^ (k - 1)))) a
  unfolding enlarged
  enlarged_upper x =
      let less : 2 ^ n + x - 2 ^ n ≡ x = omega arith in
      ap (λ (t : Bool). cond t (f (2 ^ n + x)) (bit_xor (f (bit_xor (2 ^ n + x - 2 ^ n) (2 ^ (k - 1)))) a)) (le-ltb (2 ^ n + x) (2 ^ n) (omega arith))
      ∙ ap (λ (y : ℕ). bit_xor (f (bit_xor y (2 ^ (k - 1)))) a) less

  -- values and a constant of m bits give values of m bits
  pub enlarged_lt : (m : ℕ) → ((x : ℕ) → x < 2 ^ n → f x < 2 ^ m) → a < 2 ^ m → 1 ≤ k → k ≤ n → (x : ℕ) → x < 2 ^ suc n → enlarged n f k a x < 2 ^ m
  enlarged_lt m h ha lo hi = half_cases n (λ x. enlarged n f k a x < 2 ^ m)
      (λ x l. subst (λ (z : ℕ). z < 2 ^ m) (sym (enlarged_lower x l)) (h x l))
      (λ x l. subst (λ (z : ℕ). z < 2 ^ m) (sym (enlarged_upper x))
      (xor_lt m (f (bit_xor x (2 ^ (k - 1)))) a (h (bit_xor x (2 ^ (k - 1))) (xor_lt n x (2 ^ (k - 1)) l (input_bit_lt n k lo hi))) ha))

-- ---- the enlarged table: its length and its entries
module _ (n : ℕ) (table : List ℕ) (k a : ℕ) where
  -- it has 2^(n + 1) entries
  pub length_enlarged_table : length (enlarged_table n table k a) ≡ 2 ^ suc n
  unfolding enlarged_table
  length_enlarged_table = length_list_below (2 ^ suc n) (λ x. enlarged n (at table) k a x)

  -- which are the values of the enlarged function
  pub at_enlarged_table : (x : ℕ) → x < 2 ^ suc n → at (enlarged_table n table k a) x ≡ enlarged n (at table) k a x
  unfolding enlarged_table
  at_enlarged_table x l = get_or_list_below (2 ^ suc n) (λ x. enlarged n (at table) k a x) x 0 l

-- ---- the enlarged box: its length, its rows, and their two parts
module _ (n : ℕ) (rows table : List ℕ) (k : ℕ) where
  -- it has 2^(n + 1) rows
  pub length_enlarged_rows : length (enlarged_rows n rows table k) ≡ 2 ^ suc n
  unfolding enlarged_rows
  length_enlarged_rows = length_list_below (2 ^ suc n) (λ x. enlarged n (at rows) k 0 x + enlarged n (at table) k 1 x * 2 ^ n)

  -- each with the enlarged table's bit above the enlarged row
  pub at_enlarged_rows : (x : ℕ) → x < 2 ^ suc n → at (enlarged_rows n rows table k) x ≡ enlarged n (at table) k 1 x * 2 ^ n + enlarged n (at rows) k 0 x
  unfolding enlarged_rows
  at_enlarged_rows x l =
      get_or_list_below (2 ^ suc n) (λ x. enlarged n (at rows) k 0 x + enlarged n (at table) k 1 x * 2 ^ n) x 0 l
      ∙ add_comm (enlarged n (at rows) k 0 x) (enlarged n (at table) k 1 x * 2 ^ n)

  module _ (below : (x : ℕ) → x < 2 ^ n → at rows x < 2 ^ n) (bits : Boolean n (at table)) (lo : 1 ≤ k) (hi : k ≤ n) where
    -- the low part of a row has n bits
    pub low_part_lt : (x : ℕ) → x < 2 ^ suc n → enlarged n (at rows) k 0 x < 2 ^ n
    low_part_lt = enlarged_lt n (at rows) k 0 n below (pow_pos n) lo hi

    -- the top part of a row is a bit
    pub top_part_lt : (x : ℕ) → x < 2 ^ suc n → enlarged n (at table) k 1 x < 2
    top_part_lt = enlarged_lt n (at table) k 1 1 bits (omega arith) lo hi

    -- every new row has n + 1 bits
    pub enlarged_rows_lt : (x : ℕ) → x < 2 ^ suc n → at (enlarged_rows n rows table k) x < 2 ^ suc n
    enlarged_rows_lt x l = subst (λ (z : ℕ). z < 2 ^ suc n) (sym (at_enlarged_rows x l)) (joined (enlarged n (at table) k 1 x) (enlarged n (at rows) k 0 x) (top_part_lt x l) (low_part_lt x l))
      where
        joined : (t v : ℕ) → t < 2 → v < 2 ^ n → t * 2 ^ n + v < 2 ^ suc n
        joined t v ht hv = bit_cases (λ t. t * 2 ^ n + v < 2 ^ suc n)
            (omega (arith, two-pow-succ n)) (omega (arith, two-pow-succ n)) t ht

    -- column j of the new box, from 1 to n, is the enlarged column j of the old one, with the constant 0
    pub enlarged_column : (j : ℕ) → 1 ≤ j → j ≤ n → (x : ℕ) → x < 2 ^ suc n → column (enlarged_rows n rows table k) j x ≡ enlarged n (column rows j) k 0 x
    unfolding column
    enlarged_column j jl jh x l =
        ap (bit j) (at_enlarged_rows x l ∙ sym (xor_shifted top n low (low_part_lt x l))) ∙ bit_of_xor j (top * 2 ^ n) low
        ∙ ap (λ (z : ℕ). bit_xor z (bit j low)) (ap (λ (z : ℕ). bit j (top * 2 ^ z)) last ∙ bit_placed_other j (suc n) top jl (omega arith) (λ e. omega arith) (top_part_lt x l))
        ∙ half_cases n (λ x. bit j (enlarged n (at rows) k 0 x) ≡ enlarged n (column rows j) k 0 x)
        (λ x l. ap (bit j) (enlarged_lower n (at rows) k 0 x l) ∙ sym (enlarged_lower n (column rows j) k 0 x l))
        (λ x l.
        ap (bit j) (enlarged_upper n (at rows) k 0 x ∙ xor_zero_r (at rows (bit_xor x (2 ^ (k - 1)))))
        ∙ sym (enlarged_upper n (column rows j) k 0 x ∙ xor_zero_r (column rows j (bit_xor x (2 ^ (k - 1)))))) x l
      where
        top : ℕ
        top = enlarged n (at table) k 1 x

        low : ℕ
        low = enlarged n (at rows) k 0 x

        last : n ≡ suc n - 1
        last = omega arith

    -- column n + 1 is the enlarged table, with the constant 1
    pub enlarged_top_column : (x : ℕ) → x < 2 ^ suc n → column (enlarged_rows n rows table k) (suc n) x ≡ enlarged n (at table) k 1 x
    unfolding column bit
    enlarged_top_column x l =
        let last : suc n - 1 ≡ n = omega arith in
        ap (bit (suc n)) (at_enlarged_rows x l) ∙ ap (λ (z : ℕ). (enlarged n (at table) k 1 x * 2 ^ n + enlarged n (at rows) k 0 x) / 2 ^ z % 2) last
        ∙ ap (λ (z : ℕ). z % 2) (high (enlarged n (at table) k 1 x) n (low_part_lt x l)) ∙ mod-eq_of_lt (top_part_lt x l)
