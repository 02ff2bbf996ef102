use Rattle.std.proofs.Common.{◌≡◌, ℕ, ◌-◌, refl, sym, ap, ◌∙◌, subst, arith}
use Rattle.server.specs.Model.{served, unfinished}
use Rattle.server.specs.Calls.{state_of_server, ServerRan, none}
use Rattle.server.proofs.Places.{spots_at}
use Rattle.server.proofs.Steps.{turn_served, served_left}
use Rattle.server.proofs.Waits.{waiting_served}
use Rattle.server.proofs.Outcomes.{stepped_some, ran_more, ran_on}
use Rattle.server.proofs.Server.run.Goals as goal

pub loop-done-init : goal.loop-done-init
loop-done-init c = (none, c.waiting_places-waiting.ensures)

pub returns-then-place-eq0 : goal.returns-then-place-eq0
returns-then-place-eq0 c =
    let loop = c.loop-done in
    let turn_now = c.next_place-place.ensures.1 ∙ turn_served loop.server loop.waiting loop.invariant.1 in
    ran_on c.args.budget loop.invariant.0 (sym turn_now ∙ c.if-place-eq0.true) (omega arith)

pub examine-served-requires : goal.examine-served-requires
examine-served-requires c =
    let loop = c.loop-done in
    let q = c.next_place-place.result in
    let turn_now = c.next_place-place.ensures.1 ∙ turn_served loop.server loop.waiting loop.invariant.1 in
    (c.spectra-fixed.ensures, ap unfinished (sym (spots_at loop.server.places (q - 1))) ∙ served_left (state_of_server loop.server) q turn_now c.if-place-eq0.false)

pub loop-done-preserved : goal.loop-done-preserved
loop-done-preserved c =
    let loop = c.loop-done in
    let q = c.next_place-place.result in
    let some = c.if-place-eq0.false in
    let v = c.examine-served.result in
    let turn_now = c.next_place-place.ensures.1 ∙ turn_served loop.server loop.waiting loop.invariant.1 in (
      ran_more loop.invariant.0 (stepped_some loop.server q v turn_now some (λ u. c.examine-served.ensures) refl),
      waiting_served loop.server loop.waiting (q - 1) q v _ (omega (arith, c.next_place-place.ensures.0)) loop.invariant.1
          (served_left (state_of_server loop.server) q turn_now some) c.unfinished.ensures,
    )

pub returns : goal.returns
returns c =
    let all : c.loop-done._done ≡ c.args.budget = omega arith in
    subst (λ (k : ℕ). ServerRan c.args.self k c.loop-done.server) all c.loop-done.invariant.0
