use Rattle.std.proofs.Common.{arith}
use Rattle.spectra.proofs.Reading.{digit_before, digit_from}
use Rattle.spectra.proofs.digit.Goals as goal

pub returns-then-byte-lt48 : goal.returns-then-byte-lt48
returns-then-byte-lt48 c = digit_before c.args.byte (omega arith)

pub returns-else-byte-lt48 : goal.returns-else-byte-lt48
returns-else-byte-lt48 c = digit_from c.args.byte (omega arith)
