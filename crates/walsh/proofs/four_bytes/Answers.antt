-- `walsh::four_bytes` meets its contract. Assumes nothing.
use native.Mathlib.Omega.{arith}
use Rattle.walsh.specs.Work.{four_values}
use Rattle.walsh.proofs.four_bytes.Goals as goal

pub returns : goal.returns
unfolding four_values
returns c = omega arith
