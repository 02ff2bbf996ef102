-- Each turn crosses one number of each half.
use Rattle.walsh.proofs.Turned.{Turned}
use Rattle.walsh.proofs.values.butterfly.Given as goal

abbrev pub invariant-loop-k : goal.invariant-loop-k
invariant-loop-k g l = let v = g.T.Value in Turned v.whole v.zero l.fn.h l.k l.fn.values l.values
