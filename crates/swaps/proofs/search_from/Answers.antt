use Rattle.std.proofs.Common.{arith, rules}
use Rattle.swaps.proofs.Searches.{from_starts, found_here, none_here, none_found}
use Rattle.swaps.proofs.search_from.Goals as goal

pub loop-high-init : goal.loop-high-init
loop-high-init c = from_starts c.requires.2 c.args.d c.args.low

pub returns-in-Ok : goal.returns-in-Ok
returns-in-Ok c = (found_here c.loop-high.invariant (omega (arith, c.requires.0.box.size)) c.in-Ok.ensures.0, search rules)

pub loop-high-preserved : goal.loop-high-preserved
loop-high-preserved c = none_here c.loop-high.invariant (omega (arith, c.requires.0.box.size)) c.in-Err.ensures.0

pub returns : goal.returns
returns c = (none_found c.loop-high.invariant (omega (arith, c.requires.0.box.size)), search rules)
