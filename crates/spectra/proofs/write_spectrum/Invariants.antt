-- What is written so far is the word and the values before the index.
use Rattle.std.proofs.Common.{take, ◌++◌}
use Rattle.std.specs.Prelude.{codes}
use Rattle.std.specs.List.{flat_map}
use Rattle.std.specs.Io.KnownBytes.{Appends}
use Rattle.spectra.specs.Printed.{value_text}
use Rattle.spectra.proofs.write_spectrum.Given as goal

abbrev pub invariant-loop-value : goal.invariant-loop-value
invariant-loop-value g l =
    Appends (g.W.Write.contents l.fn.out) (g.W.Write.contents l.out) (codes "spectrum" ++ flat_map value_text (take l.value-index l.fn.values))
