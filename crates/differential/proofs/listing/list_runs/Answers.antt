-- Each run's cell is stored after those of the runs before.
use Rattle.std.proofs.Common.{arith}
use Rattle.differential.proofs.Runs.{runs_none, run_room, run_next, runs_all}
use Rattle.differential.proofs.listing.list_runs.Goals as goal

pub loop-y-init : goal.loop-y-init
loop-y-init c = runs_none

pub list_run-next-requires : goal.list_run-next-requires
list_run-next-requires c =
    (c.requires.0, omega arith, c.requires.2, c.requires.3, run_room c.loop-y.invariant (omega arith) c.requires.4)

pub loop-y-preserved : goal.loop-y-preserved
loop-y-preserved c = run_next c.loop-y.invariant (omega arith) c.list_run-next.ensures.0 c.list_run-next.ensures.1

pub returns : goal.returns
returns c = runs_all c.loop-y.invariant c.requires.0 (omega arith)
