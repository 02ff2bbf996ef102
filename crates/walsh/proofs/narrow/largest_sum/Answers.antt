use Rattle.std.proofs.Common.{ℕ, ◌+◌, refl, ap, ap₂, ◌∙◌, add-one}
use lib.IntN.{nat_abs}
use Prim.Native.Nat.{max}
use Rattle.boolean.specs.Sums.{largest_below}
use Rattle.boolean.specs.Functions.{value_at}
use Rattle.walsh.proofs.Short.{narrow_told}
use Rattle.walsh.proofs.narrow.largest_sum.Goals as goal

pub loop-k-init : goal.loop-k-init
unfolding largest_below
loop-k-init c = refl

pub loop-k-preserved : goal.loop-k-preserved
unfolding largest_below
loop-k-preserved c =
    rw add-one
    (c.max-largest.ensures ∙ ap₂ max c.loop-k.invariant (ap₂ (λ (a b : ℕ). a + b) (c.magnitude.ensures ∙ ap nat_abs (narrow_told (value_at c.args.values.now c.loop-k.k) c.magnitude-arg-1.given)) (c.magnitude-in-loop-k.ensures ∙ ap nat_abs (narrow_told (value_at c.args.values.now (c.args.h + c.loop-k.k)) c.magnitude-arg-in-loop-k-1.given))))
