use Rattle.std.proofs.Common.{arith}
use Rattle.std.proofs.Math.ListN.{length-set}
use Rattle.avalanche.proofs.Listing.{listed_takes}
use Rattle.avalanche.proofs.list_change.Goals as goal

pub returns : goal.returns
returns c =
    let a = c.args in
    (omega arith, listed_takes a.j a.s a.count a.list.now c.requires.2 c.requires.0 c.if-j-s.false c.requires.1, length-set a.list.now a.count a.s)
