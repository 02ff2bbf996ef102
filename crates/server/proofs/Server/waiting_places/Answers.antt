use Rattle.std.proofs.Common.{◌≡◌, ℕ, refl, subst, arith}
use Rattle.server.proofs.Waits.{Marked, marked_none, marked_more, marked_all}
use Rattle.server.proofs.Server.waiting_places.Goals as goal

pub loop-at-init : goal.loop-at-init
loop-at-init c = marked_none c.args.self _ refl

pub loop-at-preserved : goal.loop-at-preserved
loop-at-preserved c = marked_more c.args.self c.loop-at.waiting c.loop-at.at _ (omega arith) c.loop-at.invariant c.unfinished.ensures

pub returns : goal.returns
returns c =
    let all : c.loop-at.at ≡ 8 = omega arith in
    marked_all (subst (λ (k : ℕ). Marked c.args.self c.loop-at.waiting k) all c.loop-at.invariant)
