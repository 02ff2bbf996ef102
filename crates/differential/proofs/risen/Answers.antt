-- The number is found by the bucket, where the difference has it or takes it, and else by those before it.
use Rattle.std.proofs.Common.{◌≡◌, ℕ, ◌+◌, ◌<◌, List, length, take, refl, sym, ap, ◌∙◌, arith}
use Rattle.boolean.specs.Functions.{at, occurrences}
use Rattle.sorting.proofs.Occurrences.{occurs_more, occurs_le, occurs_part}
use Rattle.differential.proofs.Buckets.{held_fits, own_risen, own_next, other_next}
use Rattle.differential.proofs.risen.Goals as goal

-- the count among those before, risen
risen_count : (values : List ℕ) (y count : ℕ) → count ≡ occurrences (take y values) (length (take y values)) (at values y) → y < length values
    → count + 1 ≡ occurrences values (y + 1) (at values y)
risen_count values y count e l =
    ap (λ (k : ℕ). k + 1) (e ∙ occurs_part values y (at values y) (omega arith)) ∙ sym (occurs_more values y (at values y) refl)

pub overflow_add-standing : goal.overflow_add-standing
overflow_add-standing c = omega (arith, held_fits c.requires.3 (c.type_inv.differences c.args.y).fits c.max-held.ensures)

pub returns-then-held-none-eq0 : goal.returns-then-held-none-eq0
returns-then-held-none-eq0 c =
    let buckets = c.requires.3 in
    let small = (c.type_inv.differences c.args.y).fits in
    (own_risen buckets small c.max-held.ensures c.if-held-none-eq0.true, own_next buckets small c.max-held.ensures c.if-held-none-eq0.true)

pub overflow_mul-result : goal.overflow_mul-result
overflow_mul-result c =
    let values = c.args.differences.now in
    let y = c.args.y in
    omega (arith, risen_count values y _ c.count_equal-before.ensures c.requires.1, occurs_le values (y + 1) (at values y))

pub overflow_add-result-2 : goal.overflow_add-result-2
overflow_add-result-2 c =
    let values = c.args.differences.now in
    let y = c.args.y in
    omega (arith, risen_count values y _ c.count_equal-before.ensures c.requires.1, occurs_le values (y + 1) (at values y))

pub returns : goal.returns
returns c =
    let small = (c.type_inv.differences c.args.y).fits in (
      omega (arith, risen_count c.args.differences.now c.args.y _ c.count_equal-before.ensures c.requires.1, small),
      other_next c.requires.3 small c.max-held.ensures c.if-held-none-eq0.false,
    )
