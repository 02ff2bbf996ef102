-- What is written so far is the word and the digits before the index.
use Rattle.std.proofs.Common.{take, ◌++◌}
use Rattle.std.specs.Prelude.{codes}
use Rattle.std.specs.Fmt.{decimal}
use Rattle.std.specs.List.{flat_map}
use Rattle.std.specs.Io.KnownBytes.{Appends}
use Rattle.spectra.proofs.write_table.Given as goal

abbrev pub invariant-loop-value : goal.invariant-loop-value
invariant-loop-value g l =
    Appends (g.W.Write.contents l.fn.out) (g.W.Write.contents l.out) (codes "function " ++ flat_map decimal (take l.value-index l.fn.table))
