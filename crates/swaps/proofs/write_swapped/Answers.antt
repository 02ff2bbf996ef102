use Rattle.std.proofs.Common.{arith}
use Rattle.std.proofs.lemmas.Grind.{common_steps}
use Rattle.boolean.specs.Functions.{swapped}
use Rattle.swaps.proofs.write_swapped.Goals as goal

pub returns : goal.returns
unfolding swapped
returns c = grind (arith, common_steps)
