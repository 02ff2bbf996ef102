-- The width reached is no more than the largest.
use Rattle.std.proofs.Common.{◌≤◌}
use Rattle.spectra.specs.Reading.{width_of}
use Rattle.spectra.proofs.width_of.Given as goal

abbrev pub invariant-loop-n : goal.invariant-loop-n
invariant-loop-n l = l.n ≤ width_of l.fn.length
