-- After each rise the running value is the largest count so far with the smallest difference that has it.
use Rattle.std.proofs.Common.{◌≡◌, ℕ, ◌-◌, ◌*◌, length, sym, ap, ◌∙◌, subst, arith}
use Rattle.differential.specs.Running.{LargestSoFar, number_in, running_after}
use Rattle.differential.specs.Work.{Buckets}
use Rattle.differential.proofs.Rises.{running_none, rises_none, row_rises_next, in_row, out_of_row, row_below}
use Rattle.differential.proofs.Buckets.{buckets_none}
use Rattle.differential.proofs.largest_risen.Goals as goal

pub loop-y-init : goal.loop-y-init
loop-y-init c = (in_row 4294967295 (running_none _), ap (number_in c.args.a) (sym (rises_none _)), buckets_none _ c.requires.2)

pub rise-after-requires : goal.rise-after-requires
rise-after-requires c = (c.requires.0, omega arith, c.requires.1, c.loop-y.invariant.2, c.loop-y.invariant.0)

pub loop-y-preserved : goal.loop-y-preserved
loop-y-preserved c =
    let e = c.rise-after.ensures in
    (e.0, e.1 ∙ row_rises_next _ _ _ c.loop-y.invariant.1 e.2, e.3)

pub overflow_sub-result : goal.overflow_sub-result
overflow_sub-result c = row_below c.loop-y.invariant.0

pub returns : goal.returns
returns c =
    let args = c.args in
    let values = args.differences.now in
    let all : c.loop-y.y ≡ length values = omega arith in
    let value : c.loop-y.running - args.a * 1099511627776 ≡ running_after values c.loop-y.y = omega (arith, c.loop-y.invariant.1) in (
      subst (λ (k : ℕ). LargestSoFar values k (c.loop-y.running - args.a * 1099511627776)) all (out_of_row c.loop-y.invariant.0),
      value ∙ ap (running_after values) all,
      subst (λ (k : ℕ). Buckets args.a values k c.loop-y.buckets) all c.loop-y.invariant.2,
    )
