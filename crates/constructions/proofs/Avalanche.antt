-- Enlargement keeps the strict avalanche criterion: of one column, for either constant, and of a whole box.
use mathlib.Core.Path.{◌≡◌, sym, ap, ap₂, ◌∙◌, subst}
use mathlib.Core.Bool.{not}
use mathlib.Core.List.{List}
use Prim.Native.Nat.{ℕ, suc, ◌+◌, ◌-◌, ◌%◌, ◌^◌, ◌<◌, ◌≤◌}
use native.Mathlib.Nat.{add-zero, div-one, le_refl, mod-eq_of_lt, two-pow-succ}
use native.Mathlib.Omega.{arith}
use native.Mathlib.Decide.{dec_le, dec_lt}
use lib.Bits.{bit_xor, xor_comm, xor_lt, xor_zero_r}
use lib.Dec.{eqb}
use lib.ListN.{length, get_or-eq_default}
use lib.Pow.{pow_pos, pow_mono}
use Rattle.boolean.specs.Bits.{bit}
use Rattle.boolean.specs.Functions.{Boolean, at, changes, column}
use Rattle.boolean.specs.Sums.{count_below}
use Rattle.boolean.proofs.Cases.{all2, all3, sameb, sameb→eq}
use Rattle.boolean.proofs.Columns.{column_lt}
use Rattle.boolean.proofs.Correlation.{changes_cong}
use Rattle.boolean.proofs.Counts.{count_cong, count_halves, count_not}
use Rattle.boolean.proofs.Dots.{bit_cases}
use Rattle.boolean.proofs.Transform.{xor_01, xor_10, xor_11}
use Rattle.boolean.proofs.Xor.{xor_assoc}
use Rattle.refusals.specs.Table.{Box, Table}
use Rattle.boolean.proofs.Shifts.{count_shift}
use Rattle.avalanche.specs.Avalanche.{dynamic_distance}
use Rattle.avalanche.proofs.Criteria.{avalanche_exactly}
use Rattle.constructions.specs.Enlargement.{enlarged, enlarged_table, enlarged_rows}
use Rattle.constructions.proofs.Halves.{input_bit_lt, enlarged_lower, enlarged_upper, enlarged_lt, length_enlarged_table, at_enlarged_table, length_enlarged_rows, enlarged_rows_lt, enlarged_column, enlarged_top_column}

-- two numbers are XORed to a third in either order
xor_swap : (x d e : ℕ) → bit_xor (bit_xor x d) e ≡ bit_xor (bit_xor x e) d
xor_swap x d e = xor_assoc x d e ∙ ap (bit_xor x) (xor_comm d e) ∙ sym (xor_assoc x e d)

-- two truth values differ as they do with a third XORed to both
differ_added : (p q a : ℕ) → p < 2 → q < 2 → a < 2 → not (eqb (bit_xor p a) (bit_xor q a)) ≡ not (eqb p q)
differ_added p q a hp hq ha = sameb→eq _ _ (all3 (λ p q a. sameb (not (eqb (bit_xor p a) (bit_xor q a))) (not (eqb p q))) tt p q a hp hq ha)

-- they differ in either order
differ_turned : (p q : ℕ) → p < 2 → q < 2 → not (eqb p q) ≡ not (eqb q p)
differ_turned p q hp hq = sameb→eq _ _ (all2 (λ p q. sameb (not (eqb p q)) (not (eqb q p))) tt p q hp hq)

-- one differs from another's negation where it does not differ from the other
differ_negated : (p q : ℕ) → p < 2 → q < 2 → not (eqb p (bit_xor q 1)) ≡ not (not (eqb p q))
differ_negated p q hp hq = sameb→eq _ _ (all2 (λ p q. sameb (not (eqb p (bit_xor q 1))) (not (not (eqb p q)))) tt p q hp hq)

-- functions that are equal below 2^n have the same changes
changes_below : (n : ℕ) (f g : ℕ → ℕ) (d : ℕ) → d < 2 ^ n → ((x : ℕ) → x < 2 ^ n → f x ≡ g x) → changes n f d ≡ changes n g d
unfolding changes
changes_below n f g d hd h = count_cong (2 ^ n) _ _ (λ x l. ap₂ (λ (u v : ℕ). not (eqb u v)) (h x l) (h (bit_xor x d) (xor_lt n x d l hd)))

-- ---- one column
module _ (n : ℕ) (f : ℕ → ℕ) (k a : ℕ) (bits : Boolean n f) (ha : a < 2) (lo : 1 ≤ k) (hi : k ≤ n) where
  -- the input that the upper half changes
  abbrev e : ℕ
  e = 2 ^ (k - 1)

  -- it is an input of n bits
  e_lt : e < 2 ^ n
  e_lt = input_bit_lt n k lo hi

  -- f is a bit there too
  shifted_bit : (x : ℕ) → x < 2 ^ n → f (bit_xor x e) < 2
  shifted_bit x l = bits (bit_xor x e) (xor_lt n x e l e_lt)

  -- the enlarged function
  abbrev g : ℕ → ℕ
  g x = enlarged n f k a x

  -- a change of old inputs changes the enlarged function twice as often as f
  pub enlarged_changes_old : (d : ℕ) → d < 2 ^ n → changes (suc n) (enlarged n f k a) d ≡ changes n f d + changes n f d
  unfolding changes
  enlarged_changes_old d hd =
      count_halves n (λ x. not (eqb (g x) (g (bit_xor x d))))
      ∙ ap₂ (λ (i j : ℕ). i + j)
      (count_cong (2 ^ n) _ _ (λ x l. ap₂ (λ (u v : ℕ). not (eqb u v)) (enlarged_lower n f k a x l) (enlarged_lower n f k a (bit_xor x d) (xor_lt n x d l hd))))
      (count_cong (2 ^ n) _ _ (λ x l.
      ap₂ (λ (u v : ℕ). not (eqb u v)) (enlarged_upper n f k a x)
      (ap g (xor_10 n x d l hd) ∙ enlarged_upper n f k a (bit_xor x d) ∙ ap (λ (y : ℕ). bit_xor (f y) a) (xor_swap x d e))
      ∙ differ_added (f (bit_xor x e)) (f (bit_xor (bit_xor x e) d)) a (shifted_bit x l)
      (bits (bit_xor (bit_xor x e) d) (xor_lt n (bit_xor x e) d (xor_lt n x e l e_lt) hd)) ha)
      ∙ count_shift n e e_lt (λ y. not (eqb (f y) (f (bit_xor y d)))))

  -- the inputs at which f differs from the upper half's value across from it
  across : ℕ
  across = count_below (2 ^ n) (λ x. not (eqb (f x) (bit_xor (f (bit_xor x e)) a)))

  -- the change of the new input
  changes_new : changes (suc n) (enlarged n f k a) (2 ^ n) ≡ across + across
  unfolding changes across
  changes_new =
      count_halves n (λ x. not (eqb (g x) (g (bit_xor x (2 ^ n)))))
      ∙ ap₂ (λ (i j : ℕ). i + j)
      (count_cong (2 ^ n) _ _ (λ x l. ap₂ (λ (u v : ℕ). not (eqb u v)) (enlarged_lower n f k a x l) (ap g (up x l) ∙ enlarged_upper n f k a x)))
      (count_cong (2 ^ n) _ _ (λ x l.
      ap₂ (λ (u v : ℕ). not (eqb u v)) (enlarged_upper n f k a x) (ap g (down x l) ∙ enlarged_lower n f k a x l)
      ∙ differ_turned (bit_xor (f (bit_xor x e)) a) (f x) (xor_lt 1 (f (bit_xor x e)) a (shifted_bit x l) ha) (bits x l)))
    where
      up : (x : ℕ) → x < 2 ^ n → bit_xor x (2 ^ n) ≡ 2 ^ n + x
      up x l = ap (bit_xor x) (sym (add-zero (2 ^ n))) ∙ xor_01 n x 0 l (pow_pos n) ∙ ap (λ (z : ℕ). 2 ^ n + z) (xor_zero_r x)

      down : (x : ℕ) → x < 2 ^ n → bit_xor (2 ^ n + x) (2 ^ n) ≡ x
      down x l = ap (bit_xor (2 ^ n + x)) (sym (add-zero (2 ^ n))) ∙ xor_11 n x 0 l (pow_pos n) ∙ xor_zero_r x

  -- 2^n is twice 2^(n − 1)
  half : 2 ^ n ≡ 2 ^ (n - 1) + 2 ^ (n - 1)
  half = let s : n ≡ suc (n - 1) = omega arith in ap (λ (z : ℕ). 2 ^ z) s ∙ two-pow-succ (n - 1)

  -- they are half of all, for either constant
  across_half : changes n f e ≡ 2 ^ (n - 1) → across ≡ 2 ^ (n - 1)
  unfolding across changes
  across_half h = bit_cases (λ a. count_below (2 ^ n) (λ x. not (eqb (f x) (bit_xor (f (bit_xor x e)) a))) ≡ 2 ^ (n - 1))
      (count_cong (2 ^ n) _ _ (λ x l. ap (λ (z : ℕ). not (eqb (f x) z)) (xor_zero_r (f (bit_xor x e)))) ∙ h)
      (count_cong (2 ^ n) _ _ (λ x l. differ_negated (f x) (f (bit_xor x e)) (bits x l) (shifted_bit x l)) ∙ rest) a ha
    where
      rest : count_below (2 ^ n) (λ x. not (not (eqb (f x) (f (bit_xor x e))))) ≡ 2 ^ (n - 1)
      rest = omega (arith, half, h, count_not (2 ^ n) (λ x. not (eqb (f x) (f (bit_xor x e)))))

  -- where each input changes f at half of the places, each of the n + 1 inputs changes the enlarged function at half of its places
  pub enlarged_avalanche : ((i : ℕ) → 1 ≤ i → i ≤ n → changes n f (2 ^ (i - 1)) ≡ 2 ^ (n - 1))
      → (i : ℕ) → 1 ≤ i → i ≤ suc n → changes (suc n) (enlarged n f k a) (2 ^ (i - 1)) ≡ 2 ^ n
  enlarged_avalanche h i il ih = pick (dec_le i n)
    where
      pick : Dec (i ≤ n) → changes (suc n) (enlarged n f k a) (2 ^ (i - 1)) ≡ 2 ^ n
      pick (yes l) = omega (arith, half, h i il l, enlarged_changes_old (2 ^ (i - 1)) (input_bit_lt n i il l))
      pick (no l) =
          let s : i - 1 ≡ n = omega arith in
          ap (λ (z : ℕ). changes (suc n) (enlarged n f k a) (2 ^ z)) s ∙ changes_new ∙ omega (arith, half, across_half (h k lo hi))

-- ---- tables and boxes
-- a table of bits is its own column
pub table_column : (table : List ℕ) (x : ℕ) → at table x < 2 → column table 1 x ≡ at table x
unfolding column bit
table_column table x h = ap (λ (z : ℕ). z % 2) (div-one (at table x)) ∙ mod-eq_of_lt h

-- 2^n rows of m bits are a box
pub box_of : (n m : ℕ) (rows : List ℕ) → 1 ≤ n → n ≤ 8 → 1 ≤ m → m ≤ 32 → length rows ≡ 2 ^ n → ((x : ℕ) → x < 2 ^ n → at rows x < 2 ^ m) → Box n m rows
box_of n m rows nl nh ml mh size below = record {
  n_low = nl;
  n_high = nh;
  m_low = ml;
  m_high = mh;
  size = size;
  small = omega (arith, pow_mono nh);
  below = λ x. pick x (dec_lt x (2 ^ n));
}
  where
    pick : (x : ℕ) → Dec (x < 2 ^ n) → at rows x < 2 ^ m
    pick x (yes l) = below x l
    pick x (no l) = subst (λ (z : ℕ). z < 2 ^ m) (sym (get_or-eq_default rows 0 (omega arith))) (pow_pos m)

-- the number before n + 1
last : (n : ℕ) → n ≡ suc n - 1
last n = omega arith

module _ (n : ℕ) (table : List ℕ) (k : ℕ) (t : Table n table) (small : n ≤ 7) (lo : 1 ≤ k) (hi : k ≤ n) where
  -- the table's entries are bits
  table_bits : Boolean n (at table)
  table_bits x l = t.bits x

  -- what the criterion says of the table's function
  table_changes : (dynamic_distance n 1 table 1 1).figure ≡ 0 → (i : ℕ) → 1 ≤ i → i ≤ n → changes n (at table) (2 ^ (i - 1)) ≡ 2 ^ (n - 1)
  table_changes e i il ih =
      sym (changes_cong n (column table 1) (at table) (2 ^ (i - 1)) (λ x. table_column table x (t.bits x)))
      ∙ (avalanche_exactly n 1 table (box_of n 1 table t.n_low t.n_high (le_refl 1) (omega arith) t.size table_bits)).0 e 1 i (le_refl 1) (le_refl 1) il ih

  module _ (a : ℕ) (ha : a < 2) where
    -- the enlarged table's entries are bits
    new_bits : Boolean (suc n) (at (enlarged_table n table k a))
    new_bits x l = subst (λ (z : ℕ). z < 2) (sym (at_enlarged_table n table k a x l)) (enlarged_lt n (at table) k a 1 table_bits ha lo hi x l)

    -- so it is a box of one output
    pub enlarged_table_box : Box (suc n) 1 (enlarged_table n table k a)
    enlarged_table_box = box_of (suc n) 1 (enlarged_table n table k a) (omega arith) (omega arith) (le_refl 1) (omega arith) (length_enlarged_table n table k a) new_bits

    -- a table that meets the strict avalanche criterion makes, with either constant, a table that meets it
    pub table_avalanche : (dynamic_distance n 1 table 1 1).figure ≡ 0 → (dynamic_distance (suc n) 1 (enlarged_table n table k a) 1 1).figure ≡ 0
    table_avalanche e = (avalanche_exactly (suc n) 1 (enlarged_table n table k a) enlarged_table_box).1 meets
      where
        meets : (j i : ℕ) → 1 ≤ j → j ≤ 1 → 1 ≤ i → i ≤ suc n → changes (suc n) (column (enlarged_table n table k a) j) (2 ^ (i - 1)) ≡ 2 ^ (suc n - 1)
        meets j i jl jh il ih =
            let one : j ≡ 1 = omega arith in
            ap (λ (z : ℕ). changes (suc n) (column (enlarged_table n table k a) z) (2 ^ (i - 1))) one
            ∙ changes_below (suc n) (column (enlarged_table n table k a) 1) (enlarged n (at table) k a) (2 ^ (i - 1)) (input_bit_lt (suc n) i il ih)
            (λ x l. table_column (enlarged_table n table k a) x (new_bits x l) ∙ at_enlarged_table n table k a x l)
            ∙ enlarged_avalanche n (at table) k a table_bits ha lo hi (table_changes e) i il ih ∙ ap (λ (z : ℕ). 2 ^ z) (last n)

module _ (n : ℕ) (rows table : List ℕ) (k : ℕ) (b : Box n n rows) (t : Table n table) (small : n ≤ 7) (lo : 1 ≤ k) (hi : k ≤ n) where
  -- the rows are below 2^n
  row_below : (x : ℕ) → x < 2 ^ n → at rows x < 2 ^ n
  row_below x l = b.below x

  -- and the table's entries are bits
  bits : Boolean n (at table)
  bits = table_bits n table k t small lo hi

  -- the enlarged box is a box
  pub enlarged_box : Box (suc n) (suc n) (enlarged_rows n rows table k)
  enlarged_box =
      box_of (suc n) (suc n) (enlarged_rows n rows table k) (omega arith) (omega arith) (omega arith) (omega arith)
      (length_enlarged_rows n rows table k) (enlarged_rows_lt n rows table k row_below bits lo hi)

  -- a box and a table that meet the strict avalanche criterion make a box that meets it
  pub box_avalanche : (dynamic_distance n n rows 1 1).figure ≡ 0 → (dynamic_distance n 1 table 1 1).figure ≡ 0
      → (dynamic_distance (suc n) (suc n) (enlarged_rows n rows table k) 1 1).figure ≡ 0
  box_avalanche er et = (avalanche_exactly (suc n) (suc n) (enlarged_rows n rows table k) enlarged_box).1 (λ j i jl jh il ih. pick j i jl jh il ih (dec_le j n))
    where
      pick : (j i : ℕ) → 1 ≤ j → j ≤ suc n → 1 ≤ i → i ≤ suc n → Dec (j ≤ n)
          → changes (suc n) (column (enlarged_rows n rows table k) j) (2 ^ (i - 1)) ≡ 2 ^ (suc n - 1)
      pick j i jl jh il ih (yes l) =
          changes_below (suc n) (column (enlarged_rows n rows table k) j) (enlarged n (column rows j) k 0) (2 ^ (i - 1)) (input_bit_lt (suc n) i il ih)
          (enlarged_column n rows table k row_below bits lo hi j jl l)
          ∙ enlarged_avalanche n (column rows j) k 0 (λ x l. column_lt rows j x) (omega arith) lo hi (λ i il ih. (avalanche_exactly n n rows b).0 er j i jl l il ih) i il ih
          ∙ ap (λ (z : ℕ). 2 ^ z) (last n)
      pick j i jl jh il ih (no l) =
          let top : j ≡ suc n = omega arith in
          ap (λ (z : ℕ). changes (suc n) (column (enlarged_rows n rows table k) z) (2 ^ (i - 1))) top
          ∙ changes_below (suc n) (column (enlarged_rows n rows table k) (suc n)) (enlarged n (at table) k 1) (2 ^ (i - 1)) (input_bit_lt (suc n) i il ih)
          (enlarged_top_column n rows table k row_below bits lo hi)
          ∙ enlarged_avalanche n (at table) k 1 bits (omega arith) lo hi (table_changes n table k t small lo hi et) i il ih ∙ ap (λ (z : ℕ). 2 ^ z) (last n)
