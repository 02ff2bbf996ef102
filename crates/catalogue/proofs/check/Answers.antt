-- `catalogue::check` meets its contract: a valid catalogue has the count of its records at the start.
use Rattle.std.proofs.Common.{arith}
use Rattle.catalogue.proofs.Built.{valid_says}
use Rattle.catalogue.proofs.check.Goals as goal

pub word_at-requires : goal.word_at-requires
word_at-requires c = omega (arith, (valid_says c.args.catalogue.now cc).low)
