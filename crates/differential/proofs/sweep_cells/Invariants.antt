-- The first largest cell of the rows before a, from a count that every row exceeds.
use Rattle.std.proofs.Common.{[], ◌∷◌}
use Rattle.differential.specs.Work.{cell_found, FreeFrom}
use Rattle.differential.proofs.Sweeps.{Sweeping}
use Rattle.differential.proofs.sweep_cells.Given as goal

abbrev pub invariant-loop-a : goal.invariant-loop-a
invariant-loop-a l =
    Sweeping l.n l.m l.rows (record { figure = 0; witness = 0 ∷ 0 ∷ [] }) (cell_found l.found) l.pairs l.a × FreeFrom l.a l.buckets
