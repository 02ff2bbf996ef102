use Rattle.std.proofs.Common.{length}
use Rattle.boolean.specs.Functions.{at}
use Rattle.boolean.proofs.Filled.{Filled}
use Rattle.spectra.specs.Reading.{digit_of}
use Rattle.spectra.proofs.read_digits.Given as goal

abbrev pub invariant-loop-x : goal.invariant-loop-x
invariant-loop-x l = Filled 0 (λ y. digit_of (at l.fn.text y)) (length l.fn.table) l.x l.table
