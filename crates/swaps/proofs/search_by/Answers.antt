use Rattle.std.proofs.Common.{arith, rules}
use Rattle.swaps.proofs.Searches.{by_starts, found_here, none_here, none_found}
use Rattle.swaps.proofs.search_by.Goals as goal

pub loop-low-init : goal.loop-low-init
loop-low-init c = by_starts c.requires.2 c.args.d

pub returns-in-Ok : goal.returns-in-Ok
returns-in-Ok c = (found_here c.loop-low.invariant (omega (arith, c.requires.0.box.size)) c.in-Ok.ensures.0, search rules)

pub loop-low-preserved : goal.loop-low-preserved
loop-low-preserved c = none_here c.loop-low.invariant (omega (arith, c.requires.0.box.size)) c.in-Err.ensures.0

pub returns : goal.returns
returns c = (none_found c.loop-low.invariant (omega (arith, c.requires.0.box.size)), search rules)
