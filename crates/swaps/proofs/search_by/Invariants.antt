-- The swaps of the lower inputs before the index do not raise the nonlinearity.
use Rattle.std.proofs.Common.{◌^◌}
use Rattle.swaps.specs.Swaps.{swaps_from, swaps_by}
use Rattle.swaps.proofs.Searches.{Loop}
use Rattle.swaps.proofs.search_by.Given as goal

abbrev pub invariant-loop-low : goal.invariant-loop-low
invariant-loop-low l = Loop l.job.n l.job.m l.rows (swaps_from l.job.n l.rows l.d) (swaps_by l.job.n l.rows l.d) (2 ^ l.job.n) l.hint l.low
