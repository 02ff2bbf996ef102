-- The list of cells: which cells it has, and that they stand in the order of a, then β. Assumes nothing.
use mathlib.Core.Path.{◌≡◌, refl, ap}
use mathlib.Core.Logic.{inl, inr}
use mathlib.Core.List.Memᴰ
use mathlib.Core.List.{List, [], ◌∷◌, Memᴰ}
use Prim.Native.Nat.{ℕ, suc, ◌+◌, ◌*◌, ◌-◌, ◌^◌, ◌<◌, ◌≤◌}
use native.Mathlib.Nat.{le_refl, mul-le-mul_right, suc-mul}
use native.Mathlib.Omega.{arith}
use lib.Pow.{pow_pos, pow-lt}
use Rattle.boolean.specs.Sums.{list_from}
use Rattle.boolean.specs.Selection.{Candidate, Ascending}
use Rattle.boolean.proofs.Lists.{mem_list_from, in_list_from, mem_list_below, in_list_below, mem_each, in_each, ascending_list_from, ascending_list_below, ascending_blocks}
use Rattle.differential.specs.XorTable.{cells_of, cells}
use Rattle.differential.specs.Statements.{IsCell, cell_candidate, CellBefore, rank}

-- a box with an input has a cell
pub first_cell : (n m : ℕ) → 1 ≤ n → IsCell n m 1 0
first_cell n m h = record { a_low = le_refl 1; a_high = pow-lt h; β_high = pow_pos m }

-- a cell before another has a lower number
pub before_rank : (size a' β' a β : ℕ) → β' < size → CellBefore a' β' a β → a' * size + β' < a * size + β
before_rank size a' β' a β h (inl l) = omega (arith, suc-mul a' size, mul-le-mul_right size l)
before_rank size a' β' a β h (inr t) = omega (arith, ap (λ (z : ℕ). z * size) t.0)

module _ (n m : ℕ) (rows : List ℕ) where
  -- ---- the cells of one row
  pub in_cells_of : (a β : ℕ) → β < 2 ^ m → Memᴰ (cell_candidate n rows a β) (cells_of n m rows a)
  unfolding cells_of
  in_cells_of a β h = in_list_below (2 ^ m) (cell_candidate n rows a) β h

  pub mem_cells_of : (a : ℕ) (c : Candidate) → Memᴰ c (cells_of n m rows a) → (β : ℕ) × (β < 2 ^ m) × (c ≡ cell_candidate n rows a β)
  unfolding cells_of
  mem_cells_of a c k = mem_list_below (2 ^ m) (cell_candidate n rows a) c k

  pub ascending_cells_of : (size a : ℕ) → Ascending (rank size) (cells_of n m rows a)
  unfolding cells_of
  ascending_cells_of size a = ascending_list_below (rank size) (2 ^ m) (cell_candidate n rows a) (λ i j l k. omega arith)

  -- ---- all cells
  pub in_cells : (a β : ℕ) → IsCell n m a β → Memᴰ (cell_candidate n rows a β) (cells n m rows)
  unfolding cells
  in_cells a β h =
      in_each (list_from 1 (2 ^ n - 1) (λ a. a)) (cells_of n m rows) a (cell_candidate n rows a β)
      (in_list_from 1 (2 ^ n - 1) (λ a. a) a h.a_low (omega (arith, h.a_high))) (in_cells_of a β h.β_high)

  pub mem_cells : (c : Candidate) → Memᴰ c (cells n m rows) → (a β : ℕ) × IsCell n m a β × (c ≡ cell_candidate n rows a β)
  unfolding cells
  mem_cells c k =
      let t = mem_each (list_from 1 (2 ^ n - 1) (λ a. a)) (cells_of n m rows) c k in
      let s = mem_list_from 1 (2 ^ n - 1) (λ a. a) t.0 t.1 in
      let u = mem_cells_of t.0 c t.2 in
      (t.0, u.0, record { a_low = omega (arith, s.1, s.3); a_high = omega (arith, s.2, s.3, pow_pos n); β_high = u.1 }, u.2)

  pub ascending_cells : (size : ℕ) → 2 ^ m ≤ size → Ascending (rank size) (cells n m rows)
  unfolding cells
  ascending_cells size h =
      ascending_blocks 0 size (λ a. a) (rank size) (list_from 1 (2 ^ n - 1) (λ a. a)) (cells_of n m rows)
      (ascending_list_from (λ a. a) 1 (2 ^ n - 1) (λ a. a) (λ i j l k h. k)) (λ a k. ascending_cells_of size a) (λ a k c j. inside a c (mem_cells_of a c j))
    where
      inside : (a : ℕ) (c : Candidate) → (β : ℕ) × (β < 2 ^ m) × (c ≡ cell_candidate n rows a β) → (0 + a * size ≤ rank size c) × (rank size c < 0 + suc a * size)
      inside a c t = omega (arith, ap (rank size) t.2, t.1, suc-mul a size)

  pub cells_nonempty : 1 ≤ n → (c : Candidate) × (cs : List Candidate) × (cells n m rows ≡ c ∷ cs)
  cells_nonempty h = go (cells n m rows) (in_cells 1 0 (first_cell n m h))
    where
      go : (l : List Candidate) → Memᴰ (cell_candidate n rows 1 0) l → (c : Candidate) × (cs : List Candidate) × (l ≡ c ∷ cs)
      go [] k = absurd (Memᴰ.not-nil k)
      go (c ∷ cs) k = (c, cs, refl)
