-- Each branch gives what its law says: a mask that has as many ones as the limit allows has some, and its lowest one is within 32 bits.
use Rattle.std.proofs.Common.{ℕ, ◌+◌, subst, sym, arith}
use Rattle.masks.specs.Masks.{Next, PowerAdded}
use Rattle.masks.proofs.NextMask.{next_plain, next_carried, raised_plain, raised_carried, lowest_one, lowest_place, lowest_shifted}
use Rattle.masks.proofs.next_mask.Goals as goal

pub overflow_shl-result : goal.overflow_shl-result
overflow_shl-result c = omega (arith, lowest_place c.args.c (omega (arith, c.if-c-limit.false)) c.requires.1)

pub returns-then-c-limit : goal.returns-then-c-limit
returns-then-c-limit c = (next_plain c.args.limit c.args.c c.if-c-limit.true, raised_plain c.args.c)

pub returns-else-c-limit : goal.returns-else-c-limit
returns-else-c-limit c =
    let limit = c.args.limit in
    let mask = c.args.c in
    let odd = lowest_one mask (omega (arith, c.if-c-limit.false)) c.requires.1 in
    subst (λ (z : ℕ). Next limit mask (mask + z) × PowerAdded mask (mask + z)) (sym (lowest_shifted mask (omega (arith, c.if-c-limit.false)) c.requires.1))
    (next_carried limit mask _ odd (omega (arith, c.if-c-limit.false, c.requires.2)), raised_carried mask _ odd)
