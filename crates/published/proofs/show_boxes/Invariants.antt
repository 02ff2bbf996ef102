-- What is written so far, and then the lines of the files left, are the lines of all files; a file ends within the input.
use Rattle.std.proofs.Common.{◌≡◌, ℕ, List, length, drop, ◌++◌, ◌-◌, ◌≤◌}
use Rattle.std.specs.Io.KnownBytes.{Appends}
use Rattle.published.specs.Printed.{boxes_shown}
use Rattle.published.proofs.show_boxes.Given as goal

abbrev pub invariant-loop-from : goal.invariant-loop-from
invariant-loop-from g l =
    (l.from ≤ length l.fn.bytes)
    × (done : List ℕ)
    × Appends (g.W.Write.contents l.fn.out) (g.W.Write.contents l.out) done
    × (most : ℕ)
    × (length l.fn.bytes - l.from ≤ most)
    × (boxes_shown (length l.fn.bytes) l.fn.bytes ≡ done ++ boxes_shown most (drop l.from l.fn.bytes))

abbrev pub decreases-loop-from : goal.decreases-loop-from
decreases-loop-from g l = length l.fn.bytes - l.from
