use Rattle.std.proofs.Common.{arith, ◌+◌}
use Rattle.spectra.proofs.Reading.{width_reached, width_below, width_most}
use Rattle.spectra.proofs.width_of.Goals as goal

pub returns-then-length-power_of_two : goal.returns-then-length-power_of_two
returns-then-length-power_of_two c = omega (arith, width_below c.args.length c.loop-n.n (omega (arith, c.power_of_two.ensures.0)))

pub loop-n-preserved : goal.loop-n-preserved
loop-n-preserved c = width_reached c.args.length (c.loop-n.n + 1) (omega arith) (omega (arith, c.power_of_two.ensures.0))

pub returns : goal.returns
returns c = omega (arith, width_most c.args.length)
