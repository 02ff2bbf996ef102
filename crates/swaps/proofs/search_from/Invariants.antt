-- The swaps with the inputs before the index do not raise the nonlinearity.
use Rattle.std.proofs.Common.{◌^◌}
use Rattle.swaps.specs.Swaps.{swap_at, swaps_from}
use Rattle.swaps.proofs.Searches.{Loop}
use Rattle.swaps.proofs.search_from.Given as goal

abbrev pub invariant-loop-high : goal.invariant-loop-high
invariant-loop-high l =
    Loop l.job.n l.job.m l.rows (swap_at l.rows l.d l.low) (swaps_from l.job.n l.rows l.d l.low) (2 ^ l.job.n) l.hint l.high
