-- The largest cell: no cell counts more, it is a cell of the table, and each cell before it counts less.
use mathlib.Core.Path.{◌≡◌, ap}
use mathlib.Core.List.{List}
use Prim.Native.Nat.{ℕ, ◌^◌, ◌<◌, ◌≤◌}
use native.Mathlib.Nat.{le_refl}
use native.Mathlib.Omega.{arith}
use Rattle.boolean.proofs.Selection.{first_largest_chooses, first_ranked}
use Rattle.differential.specs.XorTable.{cell, cells, largest_cell}
use Rattle.differential.specs.Statements.{IsCell, cell_candidate, CellBefore, rank}
use Rattle.differential.proofs.Cells.{before_rank, in_cells, mem_cells, ascending_cells, cells_nonempty}

module _ (n m : ℕ) (rows : List ℕ) where
  pub largest_cell_most : (a β : ℕ) → IsCell n m a β → cell n rows a β ≤ (largest_cell n m rows).figure
  unfolding largest_cell
  largest_cell_most a β h = first_largest_chooses.all (cells n m rows) (cell_candidate n rows a β) (in_cells n m rows a β h)

  module _ (n_low : 1 ≤ n) where
    pub largest_cell_reached : (a β : ℕ) × IsCell n m a β × (largest_cell n m rows ≡ cell_candidate n rows a β)
    unfolding largest_cell
    largest_cell_reached =
        let t = cells_nonempty n m rows n_low in
        mem_cells n m rows (largest_cell n m rows)
        (first_largest_chooses.mem t.2)

    pub largest_cell_first : (a β : ℕ) → largest_cell n m rows ≡ cell_candidate n rows a β
        → (a' β' : ℕ) → IsCell n m a' β' → CellBefore a' β' a β → cell n rows a' β' < (largest_cell n m rows).figure
    unfolding largest_cell
    largest_cell_first a β e a' β' h l =
        let t = cells_nonempty n m rows n_low in
        first_ranked (rank (2 ^ m)) (λ r c. c.figure < r.figure) (ascending_cells n m rows (2 ^ m) (le_refl (2 ^ m)))
        (first_largest_chooses.early t.2) (cell_candidate n rows a' β') (in_cells n m rows a' β' h)
        (omega (arith, ap (rank (2 ^ m)) e, before_rank (2 ^ m) a' β' a β h.β_high l))
