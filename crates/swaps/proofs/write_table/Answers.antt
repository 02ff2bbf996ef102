use Rattle.std.proofs.Common.{arith, ap, sym, ◌∙◌, below_more, get_or-set_same, get_or-set_other, length-set, ℕ, ◌<◌, ◌≢◌, length}
use Rattle.boolean.proofs.Digits.{component_dot}
use Rattle.boolean.specs.Bits.{affine}
use Rattle.swaps.specs.Work.{entry_of}
use Rattle.swaps.proofs.write_table.Goals as goal

pub loop-x-preserved : goal.loop-x-preserved
loop-x-preserved c =
    let l = c.loop-x in
    let pair = c.args.pair in
    let here : l.x < length l.table = omega (arith, l.invariant.0) in (
      length-set l.table l.x c.table_entry.result ∙ l.invariant.0,
      below_more _ _ (λ x h. let other : x ≢ l.x = omega arith in rw get_or-set_other (l.invariant.1 x h))
          (rw get_or-set_same (c.table_entry.ensures ∙ ap (λ (v : ℕ). entry_of v (affine pair.w pair.b l.x)) (sym (component_dot c.args.rows.now pair.c l.x)))),
    )
