-- The line that starts at `from` ends where the one that starts at the place reached ends.
use Rattle.std.proofs.Common.{◌≡◌}
use Rattle.spectra.specs.Reading.{line_end}
use Rattle.spectra.proofs.line_end.Given as goal

abbrev pub invariant-loop-at : goal.invariant-loop-at
invariant-loop-at l = line_end l.fn.text l.fn.from ≡ line_end l.fn.text l.at
