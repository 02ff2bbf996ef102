use Rattle.std.proofs.Common.{ℕ, ◌+◌, refl, ap, ap₂, ◌∙◌, add-one}
use lib.IntN.{nat_abs}
use Prim.Native.Nat.{max}
use Rattle.boolean.specs.Sums.{largest_below}
use Rattle.boolean.specs.Functions.{value_at}
use Rattle.boolean.proofs.Words.{word_told}
use Rattle.walsh.proofs.largest_magnitude.Goals as goal

pub loop-value-init : goal.loop-value-init
unfolding largest_below
loop-value-init c = refl

pub loop-value-preserved : goal.loop-value-preserved
unfolding largest_below
loop-value-preserved c =
    rw add-one
    (c.max-largest.ensures ∙ ap₂ max c.loop-value.invariant (c.magnitude.ensures ∙ ap nat_abs (word_told (value_at c.args.values.now c.loop-value.value-index) c.magnitude-arg-1.given)))
