-- Document 01, "Boxes made from boxes": what is promised of an enlarged column, an enlarged box and a bent function. Each theorem starts from a call that
-- its checks accept, and speaks of what the call then writes: by the contracts, `enlarged_table`, `enlarged_rows` and `bent_table`.
use Rattle.std.specs.Prelude.{Ok}
use mathlib.Core.Path.{◌≡◌, subst}
use mathlib.Core.Logic.{◌⊎◌}
use mathlib.Core.Bool.{true}
use mathlib.Core.List.{List}
use Prim.Native.Nat.{ℕ, suc, ◌+◌, ◌-◌, ◌/◌, ◌%◌, ◌^◌, ◌<◌, ◌≤◌}
use native.Mathlib.Nat.{le_refl}
use native.Mathlib.Omega.{arith}
use lib.IntN.{pos, neg_ℤ}
use Rattle.boolean.specs.Functions.{Bent, Boolean, approximation, at, square, walsh}
use Rattle.boolean.proofs.Bent.{bent_of_squares}
use Rattle.boolean.proofs.Lists.{length_list_below}
use Rattle.refusals.specs.Table.{first, box_checks}
use Rattle.refusals.proofs.Checks.{box_accepted}
use Rattle.linear.specs.Nonlinearity.{nonlinearity}
use Rattle.differential.specs.XorTable.{largest_cell}
use Rattle.avalanche.specs.Avalanche.{dynamic_distance}
use Rattle.algebraic.specs.Algebraic.{bijective}
use Rattle.constructions.specs.Enlargement.{enlarged_table, enlarged_rows}
use Rattle.constructions.specs.BentForm.{bent_form, bent_table}
use Rattle.constructions.specs.Calls.{column_checks, enlarge_checks, bent_checks}
use Rattle.constructions.specs.Work.{EnlargesColumn, EnlargesBox, MakesBent}
use Rattle.constructions.proofs.Accepted.{column_accepts, column_table, box_accepts, box_and_table, AcceptedBent, bent_accepts, bent_parts}
use Rattle.constructions.proofs.Avalanche.{box_of, enlarged_table_box, table_avalanche, enlarged_box, box_avalanche}
use Rattle.constructions.proofs.Bijection.{rows_bijective}
use Rattle.constructions.proofs.WorstCell.{full_cell_largest}
use Rattle.constructions.proofs.BentFlat.{table_boolean, table_bent, table_flat, table_nonlinearity}

-- ---- one column
module _ (n : ℕ) (table : List ℕ) (k a room : ℕ) (accepted : first (column_checks n table k a room) ≡ (Ok tt)) where
  enlarges : EnlargesColumn n table k a
  enlarges = (column_accepts n table k a room accepted).0

  -- the enlarged column, as a box of one output, passes the checks of a box, which the calls that measure it run first
  pub enlarged_table_accepted : first (box_checks (suc n) 1 (enlarged_table n table k a)) ≡ (Ok tt)
  enlarged_table_accepted =
      box_accepted (suc n) 1 (enlarged_table n table k a)
      (enlarged_table_box n table k (column_table n table k a room accepted) enlarges.widths.n_high enlarges.widths.k_low enlarges.widths.k_high a enlarges.a_bit)

  -- a column that passes SAC, which is order (1, 1) giving 0, is enlarged to one that does, for either constant (document 000)
  pub enlarged_table_avalanche : (dynamic_distance n 1 table 1 1).figure ≡ 0 → (dynamic_distance (suc n) 1 (enlarged_table n table k a) 1 1).figure ≡ 0
  enlarged_table_avalanche =
      table_avalanche n table k (column_table n table k a room accepted) enlarges.widths.n_high enlarges.widths.k_low enlarges.widths.k_high a enlarges.a_bit

-- ---- a whole box
module _ (n : ℕ) (rows table : List ℕ) (k room : ℕ) (accepted : first (enlarge_checks n rows table k room) ≡ (Ok tt)) where
  enlarges_box : EnlargesBox n rows table k
  enlarges_box = (box_accepts n rows table k room accepted).0

  -- the enlarged box passes the checks of a box, which the calls that measure it run first
  pub enlarged_box_accepted : first (box_checks (suc n) (suc n) (enlarged_rows n rows table k)) ≡ (Ok tt)
  enlarged_box_accepted =
      let t = box_and_table n rows table k room accepted in
      let w = enlarges_box.widths in
      box_accepted (suc n) (suc n) (enlarged_rows n rows table k) (enlarged_box n rows table k t.0 t.1 w.n_high w.k_low w.k_high)

  -- "If f is bijective so is the result;"
  pub enlarged_bijective : bijective n n rows ≡ true → bijective (suc n) (suc n) (enlarged_rows n rows table k) ≡ true
  enlarged_bijective =
      let e = enlarges_box in
      rows_bijective n rows table k e.rows_size (λ x l. e.rows_below x) (λ x l. e.bits x) e.widths.k_low e.widths.k_high

  -- "if f and g also pass SAC so does the result."
  pub enlarged_box_avalanche : (dynamic_distance n n rows 1 1).figure ≡ 0 → (dynamic_distance n 1 table 1 1).figure ≡ 0
      → (dynamic_distance (suc n) (suc n) (enlarged_rows n rows table k) 1 1).figure ≡ 0
  enlarged_box_avalanche =
      let t = box_and_table n rows table k room accepted in
      let w = enlarges_box.widths in
      box_avalanche n rows table k t.0 t.1 w.n_high w.k_low w.k_high

  -- its largest XOR cell counts every input: the largest that a cell can be
  pub enlarged_largest_cell : (largest_cell (suc n) (suc n) (enlarged_rows n rows table k)).figure ≡ 2 ^ suc n
  enlarged_largest_cell =
      let e = enlarges_box in
      full_cell_largest n rows table k (λ x l. e.rows_below x) e.widths.k_low e.widths.k_high

-- ---- the bent form, n = 2h: h is n / 2
module _ (n : ℕ) (permutation table : List ℕ) (room : ℕ) (accepted : first (bent_checks n permutation table room) ≡ (Ok tt)) where
  makes : MakesBent (n / 2) permutation table × (n / 2 + n / 2 ≡ n) × (room ≡ 2 ^ n)
  makes = bent_accepts n permutation table room accepted

  parts : AcceptedBent n permutation table
  parts = bent_parts n permutation table room accepted

  bits : Boolean (n / 2) (at table)
  bits x l = parts.bits x

  new_bits : Boolean n (at (bent_table n permutation table))
  new_bits =
      subst (λ (i : ℕ). Boolean i (at (bent_table i permutation table)))
      makes.1 (table_boolean (n / 2) permutation table makes.0.permutation_size parts.permutes bits)

  -- the bent function, as a box of one output, passes the checks of a box, which the calls that measure it run first
  pub bent_table_accepted : first (box_checks n 1 (bent_table n permutation table)) ≡ (Ok tt)
  unfolding bent_table
  bent_table_accepted =
      box_accepted n 1 (bent_table n permutation table)
      (box_of n 1 (bent_table n permutation table) (omega (arith, parts.n_low)) parts.n_high (le_refl 1) (omega arith)
      (length_list_below (2 ^ n) (λ z. bent_form (n / 2) permutation table z)) new_bits)

  has_input : 1 ≤ n / 2
  has_input = omega (arith, parts.n_low)

  -- "The bent form's values become 2^(h−1) or −2^(h−1)."
  pub bent_table_flat : (w : ℕ) → w < 2 ^ n
      → (approximation n (at (bent_table n permutation table)) w ≡ pos (2 ^ (n / 2 - 1))) ⊎ (approximation n (at (bent_table n permutation table)) w ≡ neg_ℤ (pos (2 ^ (n / 2 - 1))))
  bent_table_flat =
      subst (λ (i : ℕ). (w : ℕ) → w < 2 ^ i
      → (approximation i (at (bent_table i permutation table)) w ≡ pos (2 ^ (n / 2 - 1))) ⊎ (approximation i (at (bent_table i permutation table)) w ≡ neg_ℤ (pos (2 ^ (n / 2 - 1)))))
      makes.1 (table_flat (n / 2) permutation table makes.0.permutation_size parts.permutes bits has_input)

  -- "which is what bent means;"
  pub bent_table_bent : Bent n (at (bent_table n permutation table))
  bent_table_bent =
      subst (λ (i : ℕ). Bent i (at (bent_table i permutation table)))
      makes.1 (table_bent (n / 2) permutation table makes.0.permutation_size parts.permutes bits has_input)

  -- so its nonlinearity, whose one combination is within the limit 1, is 2^(n − 1) − 2^(h − 1)
  pub bent_table_nonlinearity : (nonlinearity n 1 (bent_table n permutation table) 1).figure ≡ 2 ^ (n - 1) - 2 ^ (n / 2 - 1)
  bent_table_nonlinearity =
      subst (λ (i : ℕ). (nonlinearity i 1 (bent_table i permutation table) 1).figure ≡ 2 ^ (i - 1) - 2 ^ (n / 2 - 1))
      makes.1 (table_nonlinearity (n / 2) permutation table makes.0.permutation_size parts.permutes bits has_input)

-- ---- "with n odd no function is bent."
pub odd_not_bent : (n : ℕ) (f : ℕ → ℕ) → n % 2 ≡ 1 → Bent n f → ⊥
odd_not_bent n f o b = omega (arith, b.even)

-- and each has a Walsh value whose square is over 2^n
pub odd_not_flat : (n : ℕ) (f : ℕ → ℕ) → n % 2 ≡ 1 → Boolean n f → ((w : ℕ) → w < 2 ^ n → square (walsh n f w) ≤ 2 ^ n) → ⊥
odd_not_flat n f o b s = odd_not_bent n f o (bent_of_squares n f (omega arith) b s)
