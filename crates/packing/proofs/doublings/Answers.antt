-- Below 3 a column takes one byte, and from there on it doubles with each input.
use mathlib.Core.Path.{sym}
use native.Mathlib.Omega.{arith}
use Rattle.packing.proofs.Widths.{bytes_one, bytes_power}
use Rattle.packing.proofs.doublings.Goals as goal

pub returns-then-n-lt3 : goal.returns-then-n-lt3
returns-then-n-lt3 c = (sym (bytes_one _ (omega arith)), omega arith)

pub returns-else-n-lt3 : goal.returns-else-n-lt3
returns-else-n-lt3 c = (sym (bytes_power _ (omega arith)), omega arith)
