-- What is written so far, and then the answers for the lines left, are the answers for the whole text; a line ends within it.
use Rattle.std.proofs.Common.{◌≡◌, ℕ, List, length, drop, ◌++◌, ◌+◌, ◌-◌, ◌≤◌}
use Rattle.std.specs.Io.KnownBytes.{Appends}
use Rattle.spectra.specs.Printed.{lines_shown}
use Rattle.spectra.proofs.show_lines.Given as goal

abbrev pub invariant-loop-from : goal.invariant-loop-from
invariant-loop-from g l =
    (l.from ≤ length l.fn.text + 1)
    × (done : List ℕ)
    × Appends (g.W.Write.contents l.fn.out) (g.W.Write.contents l.out) done
    × (lines_shown l.fn.text ≡ done ++ lines_shown (drop l.from l.fn.text))

abbrev pub decreases-loop-from : goal.decreases-loop-from
decreases-loop-from g l = length l.fn.text - l.from
