-- The table's own counts while the pairs are counted: each is twice that among the pairs, so the running value has their largest too, after every rise.
-- Assumes nothing.
use mathlib.Core.Path.{◌≡◌, sym, ap, ◌∙◌}
use mathlib.Core.List.{List}
use Prim.Native.Nat.{ℕ, ◌-◌, ◌*◌, ◌/◌, ◌%◌, ◌^◌, ◌<◌, ◌≤◌}
use native.Mathlib.Omega.{arith}
use native.Mathlib.Nat.{le_trans}
use lib.Bits.{bit_xor}
use lib.Dec.{eqb}
use lib.ListN.{length}
use lib.Pow.{pow_mono}
use Rattle.boolean.specs.Sums.{count_below}
use Rattle.boolean.specs.Functions.{at, occurrences}
use Rattle.boolean.proofs.Counts.{count_cong}
use Rattle.refusals.specs.Table.{Box}
use Rattle.differential.specs.XorTable.{difference, cell}
use Rattle.differential.specs.Running.{lower_input, Paired, LargestCount, running_after}
use Rattle.differential.specs.Statements.{cell_so_far}
use Rattle.differential.proofs.Pairs.{difference_same, pair_is, pair_small, cell_twice}
use Rattle.differential.proofs.Rises.{after_each_rise, largest_is, smallest_is}

module _ {n m : ℕ} {rows : List ℕ} (b : Box n m rows) {a : ℕ} {pairs : List ℕ} (p : Paired rows a pairs) where
  -- the two inputs of a pair rise together
  pub cell_so_far_twice : (y : ℕ) → y ≤ length pairs → (β : ℕ) → cell_so_far rows a p.top y β ≡ 2 * occurrences pairs y β
  unfolding cell_so_far occurrences
  cell_so_far_twice y l β =
      let low : count_below y (λ j. eqb (difference rows a (lower_input p.top j)) β) ≡ count_below y (λ j. eqb (at pairs j) β) =
      count_cong y _ _ (λ j h. ap (λ (v : ℕ). eqb v β) (sym (pair_is b p j (omega arith)))) in
      let high : count_below y (λ j. eqb (difference rows a (bit_xor (lower_input p.top j) a)) β) ≡ count_below y (λ j. eqb (difference rows a (lower_input p.top j)) β) =
      count_cong y _ _ (λ j h. ap (λ (v : ℕ). eqb v β) (difference_same rows a (lower_input p.top j))) in
      omega arith

  -- once every pair was counted, the count is the cell's
  pub cell_so_far_all : a < 2 ^ n → (β : ℕ) → cell_so_far rows a p.top (length pairs) β ≡ cell n rows a β
  cell_so_far_all l β = cell_so_far_twice (length pairs) (omega arith) β ∙ sym (cell_twice b p l β)

  -- after each rise of a pair: twice the running value's count is the table's largest so far, and its β the smallest that has it
  pub table_after_each_rise : (y : ℕ) → y ≤ length pairs
      → LargestCount (λ β. cell_so_far rows a p.top y β) (2 * (running_after pairs y / 2 ^ 32)) (2 ^ 32 - 1 - running_after pairs y % 2 ^ 32)
  table_after_each_rise y l =
      let r = after_each_rise pairs (λ x h. le_trans (pair_small b p x h) (pow_mono {i = m} {j = 32} b.m_high)) y l in
      let twice = cell_so_far_twice y l in
      record {
        most = λ v. omega (arith, twice v, r.so_far.most v, largest_is r);
        reached = omega (arith, twice r.β, r.so_far.reached, largest_is r, ap (λ (v : ℕ). cell_so_far rows a p.top y v) (smallest_is r));
        smallest = λ v h. omega (arith, twice v, r.so_far.smallest v (omega (arith, smallest_is r)), largest_is r);
      }
