use Rattle.std.proofs.Common.{arith, rules}
use Rattle.swaps.proofs.Searches.{search_starts, found_here, none_here, none_found}
use Rattle.swaps.proofs.search.Goals as goal

pub loop-d-init : goal.loop-d-init
loop-d-init c = search_starts c.requires.2

pub returns-in-Ok : goal.returns-in-Ok
returns-in-Ok c = (found_here c.loop-d.invariant (omega arith) c.in-Ok.ensures.0, search rules)

pub returns-in-Err : goal.returns-in-Err
returns-in-Err c = (none_found (none_here c.loop-d.invariant (omega arith) c.in-Err.ensures.0) (omega arith), search rules)

pub loop-d-preserved : goal.loop-d-preserved
loop-d-preserved c = none_here c.loop-d.invariant (omega arith) c.in-Err.ensures.0

pub returns : goal.returns
returns c = (none_found c.loop-d.invariant (omega arith), search rules)
