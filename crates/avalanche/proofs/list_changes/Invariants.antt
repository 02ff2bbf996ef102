use Rattle.std.proofs.Common.{◌<◌, take}
use Rattle.avalanche.specs.Work.{Listed}
use Rattle.avalanche.proofs.list_changes.Given as goal

abbrev pub invariant-loop-s : goal.invariant-loop-s
invariant-loop-s l = (l.count < l.s) × Listed l.j l.s (take l.count l.list)
