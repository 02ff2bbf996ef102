-- A byte more moves up over the gap.
use Prim.Native.Nat.{ℕ, suc, ◌+◌, ◌-◌}
use mathlib.Core.Path.{◌≡◌, subst}
use native.Mathlib.Omega.{arith}
use lib.ListN.{length, take, drop}
use lib.Seq.{length-take-le}
use Rattle.catalogue.specs.Format.{part}
use Rattle.catalogue.proofs.Built.{length_part}
use Rattle.catalogue.proofs.Moves.{Sliding, up_start, up_next, up_done}
use Rattle.catalogue.proofs.slide_up.Goals as goal

pub loop-moved-init : goal.loop-moved-init
loop-moved-init c =
    let a = c.args in
    let b = a.b.now in
    let all : a.size ≡ a.size - 0 = omega arith in
    subst (λ (k : ℕ). Sliding (take a.from b) (part a.from a.size b) (drop (a.from + a.size + a.gap) b) a.gap k b) all (up_start b a.from a.size a.gap c.requires.1 c.requires.2)

pub loop-moved-preserved : goal.loop-moved-preserved
loop-moved-preserved c =
    let a = c.args in
    let b = a.b.now in
    let f = part a.from a.size b in
    let S = drop (a.from + a.size + a.gap) b in
    let left : ℕ = a.size - (c.loop-moved.moved + 1) in
    let one : a.size - c.loop-moved.moved ≡ suc left = omega (arith, c.loop-moved-test.true) in
    let from_long : length (take a.from b) ≡ a.from = length-take-le a.from b (omega (arith, c.requires.1)) in
    up_next (take a.from b) f S a.gap a.from c.requires.0 from_long left
    (omega (arith, c.loop-moved-test.true, length_part a.from a.size b (omega (arith, c.requires.1)))) c.loop-moved.b
    (subst (λ (k : ℕ). Sliding (take a.from b) f S a.gap k c.loop-moved.b) one c.loop-moved.invariant) _ _
    (omega (arith, c.loop-moved-test.true)) (omega (arith, c.loop-moved-test.true))

pub returns : goal.returns
returns c = up_done _ _ _ _ c.requires.1 c.requires.2 _ _ (omega (arith, c.loop-moved-test.false)) c.loop-moved.invariant
