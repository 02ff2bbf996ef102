-- After each rise the running value is the largest count so far with the smallest difference that has it.
use Rattle.std.proofs.Common.{◌≡◌, ℕ, length, refl, sym, ap, ◌∙◌, subst, arith}
use mathlib.Core.Path.{ap₂}
use Rattle.differential.specs.Running.{LargestSoFar, higher_of, running_after}
use Rattle.differential.proofs.Rises.{running_none, rises_none, rises_next}
use Rattle.differential.proofs.OwnBuckets.{own_same, cleared_at, own_none}
use Rattle.differential.proofs.narrow.largest_alone.Goals as goal

pub loop-y-init : goal.loop-y-init
loop-y-init c =
    let is = c.clear_buckets.ensures in
    let zero = cleared_at is 0 c.requires.1 in (
      subst (LargestSoFar c.args.differences.now 0) (sym zero) (running_none _),
      zero ∙ sym (rises_none _),
      own_none is _ c.requires.2 c.requires.3,
    )

pub rise_alone-running-requires : goal.rise_alone-running-requires
rise_alone-running-requires c =
    let own = c.loop-y.invariant.2 in (omega arith, c.requires.0, own_same own (sym own.long) refl, c.loop-y.invariant.0)

pub loop-y-preserved : goal.loop-y-preserved
loop-y-preserved c =
    let e = c.rise_alone-running.ensures in (
      e.0,
      e.1 ∙ ap₂ higher_of c.loop-y.invariant.1 refl ∙ sym (rises_next _ _),
      own_same e.2 c.loop-y.invariant.2.long refl,
    )

pub returns : goal.returns
returns c =
    let values = c.args.differences.now in
    let all : c.loop-y.y ≡ length values = omega arith in (
      subst (λ (k : ℕ). LargestSoFar values k c.loop-y.running) all c.loop-y.invariant.0,
      c.loop-y.invariant.1 ∙ ap (running_after values) all,
      own_same c.loop-y.invariant.2 refl all,
    )
