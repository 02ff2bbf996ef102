use Rattle.std.proofs.Common.{◌≡◌, ℕ, subst, arith}
use Rattle.server.proofs.Steps.{Passed, passed_none, passed_more, turn_is, turn_none}
use Rattle.server.proofs.next_place.Goals as goal

pub loop-k-init : goal.loop-k-init
loop-k-init c = passed_none c.args.waiting.now c.args.last

pub loop-k-preserved : goal.loop-k-preserved
loop-k-preserved c = passed_more c.args.waiting.now c.args.last c.loop-k.k c.loop-k.invariant c.if-waiting-i.false

pub returns-then-waiting-i : goal.returns-then-waiting-i
returns-then-waiting-i c =
    let a = c.args in
    (omega arith, turn_is a.waiting.now a.last c.loop-k.k (omega arith) c.loop-k.invariant c.if-waiting-i.true)

pub returns : goal.returns
returns c =
    let a = c.args in
    let all : c.loop-k.k ≡ 8 = omega arith in
    (omega arith, turn_none a.waiting.now a.last (subst (λ (k : ℕ). Passed a.waiting.now a.last k) all c.loop-k.invariant))
