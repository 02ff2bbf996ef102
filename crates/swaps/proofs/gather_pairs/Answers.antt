use Rattle.std.proofs.Common.{◌+◌, ◌^◌, ◌<◌, arith, refl, sym, subst}
use Rattle.swaps.proofs.Gathering.{differs_le, preferred_nearest, gathered_more}
use Rattle.swaps.specs.Work.{PairsGathered}
use Rattle.swaps.proofs.gather_pairs.Goals as goal
use Rattle.swaps.proofs.gather_pairs.Goals.{then-pair-present, else-pair-present}

pub overflow_add-farther : goal.overflow_add-farther
overflow_add-farther c =
    omega (arith, differs_le c.args.n c.args.m c.args.rows.now c.requires.3, c.requires.0.size, c.requires.0.small)

pub loop-mask-preserved : goal.loop-mask-preserved
loop-mask-preserved c =
    let a = c.args in
    let i = c.loop-mask.invariant in
    let inside : c.loop-mask.mask < 2 ^ a.m = omega arith in
    elim c.if-pair-present.branch [
      | then-pair-present w ↦
          subst (PairsGathered a.n a.m a.rows.now a.present.count) (sym w.pairs-is) (gathered_more i refl refl (omega (arith, i.few, i.room)) (omega (arith, i.few)) (record {
            pair = c.with_spectrum-pair.result;
            nearest =
                preferred_nearest a.n a.m a.rows.now _ (record { count = a.present.count + 1; c = a.present.c; w = a.present.w; b = a.present.b }) c.loop-mask.auto.mask
                inside c.with_spectrum-pair.ensures (omega arith) w.if-pair-present.true;
            entries = w.write_table-then-pair-present.ensures;
          }))
      | else-pair-present w ↦ subst (PairsGathered a.n a.m a.rows.now a.present.count) (sym w.pairs-is) i
    ]
