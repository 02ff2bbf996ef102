-- One value more.
use Rattle.std.proofs.Common.{arith, ◌≡◌, ◌<◌, ◌∙◌, length, get_or-set_same, get_or-set_other, below_more}
use Rattle.walsh.proofs.Numbers.{by_size}
use Rattle.walsh.proofs.Short.{narrow_told}
use Rattle.walsh.proofs.values.by_definition.Goals as goal

pub loop-w-preserved : goal.loop-w-preserved
loop-w-preserved g c =
    let lt : c.loop-w.w < length c.loop-w.out = omega arith in
    below_more _ _
    (λ k h. let ne : (k ≡ c.loop-w.w → ⊥) = omega arith in rw get_or-set_other (c.loop-w.invariant k h))
    (rw get_or-set_same
    (c.of.ensures ∙ narrow_told _ c.value.type_inv ∙ c.value.ensures ∙ by_size c.args.n c.args.table.now c.loop-w.w c.requires.read.n_low c.requires.read.size))
