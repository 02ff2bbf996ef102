-- A difference that is beta is counted, and no other.
use Rattle.std.proofs.Common.{arith}
use borrow.Author.Tests.{eq-eqb, ne_eqb}
use Rattle.boolean.specs.Functions.{occurrences}
use Rattle.boolean.proofs.Counted.{counted_none, counted_le, counted_hit, counted_miss, counted_all}
use Rattle.differential.proofs.count_equal.Goals as goal
use Rattle.differential.proofs.count_equal.Goals.{then-difference-beta, else-difference-beta}

pub loop-difference-init : goal.loop-difference-init
loop-difference-init c = counted_none _ _

pub overflow_add-count : goal.overflow_add-count
overflow_add-count c = omega (arith, counted_le _ _ c.loop-difference.invariant)

pub loop-difference-preserved : goal.loop-difference-preserved
loop-difference-preserved c =
    let so_far = c.loop-difference.invariant in
    elim c.if-difference-beta.branch [
      | then-difference-beta w ↦ rw w.count-is (counted_hit _ _ so_far (omega arith) (eq-eqb _ _ w.if-difference-beta.true))
      | else-difference-beta w ↦ rw w.count-is (counted_miss _ _ so_far (omega arith) (ne_eqb _ _ w.if-difference-beta.false))
    ]

pub returns : goal.returns
unfolding occurrences
returns c = counted_all _ _ c.loop-difference.invariant (omega arith)
