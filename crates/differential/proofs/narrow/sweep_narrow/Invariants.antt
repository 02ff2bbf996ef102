-- The first largest cell of the rows before a, from a count that every row exceeds.
use Rattle.std.proofs.Common.{◌≡◌, ◌^◌, [], ◌∷◌, length}
use Rattle.differential.specs.Work.{cell_found}
use Rattle.differential.proofs.Sweeps.{Sweeping}
use Rattle.differential.proofs.narrow.sweep_narrow.Given as goal

abbrev pub invariant-loop-a : goal.invariant-loop-a
invariant-loop-a l =
    Sweeping l.n l.m l.rows (record { figure = 0; witness = 0 ∷ 0 ∷ [] }) (cell_found l.found) l.pairs l.a × (length l.buckets ≡ 2 ^ l.m)
