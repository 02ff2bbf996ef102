use Rattle.std.proofs.Common.{◌-◌, ◌^◌, ◌<◌, ℕ, arith, ap}
use native.Mathlib.Nat.{le_trans}
use Rattle.nearest.proofs.Loops.{lent_again, listing_none, listing_next}
use Rattle.nearest.proofs.list_of_ones.Goals as goal

pub loop-c-init : goal.loop-c-init
loop-c-init c =
    let pre = c.requires in
    listing_none pre.0 pre.1 (le_trans pre.2 pre.0.known.i_high) (ap (λ (z : ℕ). z - 1) c.power_of_two.ensures.0)

pub loop-c-preserved : goal.loop-c-preserved
loop-c-preserved c =
    let e = c.list_component-next.ensures in
    let inv = c.loop-c.invariant in
    let below : c.loop-c.c < 2 ^ c.args.sought.m = omega arith in
    listing_next inv below c.next_of_ones-c.ensures (lent_again inv.lent e.3 e.4 e.5) e.0 e.1 e.2
