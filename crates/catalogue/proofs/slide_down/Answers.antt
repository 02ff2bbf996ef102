-- A byte more moves down over the gap.
use Prim.Native.Nat.{◌+◌, ◌<◌}
use mathlib.Core.Path.{◌≡◌, refl}
use native.Mathlib.Omega.{arith}
use lib.ListN.{length, take, drop}
use lib.Seq.{length-take-le}
use Rattle.catalogue.specs.Format.{part}
use Rattle.catalogue.proofs.Built.{length_part}
use Rattle.catalogue.proofs.Moves.{down_start, down_next, down_done}
use Rattle.catalogue.proofs.slide_down.Goals as goal

pub loop-i-init : goal.loop-i-init
loop-i-init c = down_start _ _ _ _ c.requires.0 c.requires.1

pub loop-i-preserved : goal.loop-i-preserved
loop-i-preserved c =
    let a = c.args in
    let b = a.b.now in
    let f = part (a.to + a.gap) a.size b in
    let to_long : length (take a.to b) ≡ a.to = length-take-le a.to b (omega (arith, c.requires.0)) in
    let some : 0 < a.gap = omega (arith, c.if-gap-eq0.false) in
    down_next (take a.to b) f (drop (a.to + a.gap + a.size) b) a.gap a.to some to_long c.loop-i.i
    (omega (arith, c.loop-i-test.true, length_part (a.to + a.gap) a.size b c.requires.0)) c.loop-i.b c.loop-i.invariant _ _ refl refl

pub returns : goal.returns
returns c = down_done _ _ _ _ c.requires.0 c.requires.1 _ _ (omega (arith, c.loop-i-test.false)) c.loop-i.invariant
