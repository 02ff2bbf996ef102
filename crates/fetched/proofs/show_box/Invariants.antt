-- What is written so far is the line up to the row at the index.
use Rattle.std.proofs.Common.{take, ◌++◌}
use Rattle.std.specs.Prelude.{codes}
use Rattle.std.specs.List.{flat_map}
use Rattle.std.specs.Io.KnownBytes.{Appends}
use Rattle.lines.specs.Lines.{number_text}
use Rattle.fetched.proofs.show_box.Given as goal

abbrev pub invariant-loop-row : goal.invariant-loop-row
invariant-loop-row g l =
    Appends (g.W.Write.contents l.fn.out) (g.W.Write.contents l.out)
    (codes "box" ++ (number_text l.fn.n ++ (number_text l.fn.m ++ (codes " rows" ++ flat_map number_text (take l.row-index l.fn.rows)))))
