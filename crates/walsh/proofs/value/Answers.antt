-- The inputs where the table equals w·x are counted, and half of all inputs is taken off.
use Rattle.std.proofs.Common.{◌≡◌, arith, sym, ap, ◌∙◌, length, ℕ}
use Rattle.std.proofs.lemmas.Int.{ints}
use borrow.Author.Tests.{eq-eqb, ne_eqb}
use lib.Dec.{eqb}
use mathlib.Core.Bool.{Bool}
use mathlib.Core.List.{List}
use Rattle.boolean.specs.Bits.{dot}
use Rattle.boolean.specs.Functions.{at}
use Rattle.boolean.specs.Sums.{count_below}
use Rattle.boolean.proofs.Counts.{count_le}
use Rattle.boolean.proofs.Counted.{count_none, count_hit, count_miss}
use Rattle.walsh.proofs.value.Goals as goal
use Rattle.walsh.proofs.value.Goals.{then-bit-dot, else-bit-dot}

abbrev equal : List ℕ → ℕ → ℕ → Bool
equal table w x = eqb (at table x) (dot w x)

pub loop-x-init : goal.loop-x-init
loop-x-init c = sym (count_none _)

pub loop-x-preserved : goal.loop-x-preserved
loop-x-preserved c =
    elim c.if-bit-dot.branch [
      | then-bit-dot w ↦ omega (arith, count_hit c.loop-x.x (equal c.args.table.now c.args.w) (eq-eqb _ _ (w.if-bit-dot.true ∙ c.dot.ensures.0)))
      | else-bit-dot w ↦ omega (arith, count_miss c.loop-x.x (equal c.args.table.now c.args.w) (ne_eqb _ _ (λ e. w.if-bit-dot.false (e ∙ sym c.dot.ensures.0))))
    ]

pub overflow_add-count : goal.overflow_add-count
overflow_add-count c = omega (arith, count_le c.loop-x.x (equal c.args.table.now c.args.w))

pub overflow_cast-result : goal.overflow_cast-result
overflow_cast-result c = omega (arith, ints, count_le c.loop-x.x (equal c.args.table.now c.args.w))

pub overflow_sub-result : goal.overflow_sub-result
overflow_sub-result c = omega (arith, ints, count_le c.loop-x.x (equal c.args.table.now c.args.w))

pub returns : goal.returns
returns c =
    let size = length c.args.table.now in
    let e : c.loop-x.x ≡ size = omega arith in
    omega (arith, ints, count_le c.loop-x.x (equal c.args.table.now c.args.w), ap (λ (k : ℕ). count_below k (equal c.args.table.now c.args.w)) e)
