-- The swaps of rows that differ in fewer bits do not raise the nonlinearity.
use Rattle.std.proofs.Common.{◌+◌}
use Rattle.swaps.specs.Swaps.{swaps_by, swaps}
use Rattle.swaps.proofs.Searches.{Loop}
use Rattle.swaps.proofs.search.Given as goal

abbrev pub invariant-loop-d : goal.invariant-loop-d
invariant-loop-d l = Loop l.job.n l.job.m l.rows (swaps_by l.job.n l.rows) (swaps l.job.n l.job.m l.rows) (l.job.m + 1) l.hint l.d
