use Rattle.std.proofs.Common.{◌∙◌, arith, length-set}
use Rattle.rounds.proofs.Slices.{summed_length, box_of, mask_of, stepped_more, stepped_rest, product_small, product_more, product_end}
use Rattle.rounds.proofs.product_at.Goals as goal

pub size_in-requires : goal.size_in-requires
size_in-requires c =
    let p = c.requires in
    let boxes = c.args.boxes.now in
    let i = c.loop-k.invariant in
    let h = c.loop-k-test.true in
    (box_of boxes c.loop-k.k _ p.0 h, mask_of boxes c.loop-k.k _ p.0 h c.args.c p.3, i.rest c.loop-k.k _ _ (omega arith) h, p.2, p.4)

pub overflow_mul-size : goal.overflow_mul-size
overflow_mul-size c =
    let few = c.requires.0.few in
    omega (arith, product_small c.loop-k.k c.loop-k.size c.size_in.result (omega (arith, summed_length c.args.boxes.now)) c.loop-k.invariant.small c.size_in.ensures.1)

pub loop-k-preserved : goal.loop-k-preserved
loop-k-preserved c =
    let few = c.requires.0.few in
    let boxes = c.args.boxes.now in
    let i = c.loop-k.invariant in
    let h = c.loop-k-test.true in
    let e = c.size_in.ensures in
    record {
      room = length-set _ _ _ ∙ i.room;
      whole = product_more boxes c.loop-k.k _ c.args.c c.loop-k.size c.size_in.result _ h e.0 i.whole;
      small = (product_small c.loop-k.k c.loop-k.size c.size_in.result (omega (arith, summed_length boxes)) i.small e.1).1;
      done = stepped_more boxes c.args.c c.loop-k.k c.loop-k.work _ _ (omega (arith, summed_length boxes)) h e.2 i.done;
      rest = stepped_rest boxes c.args.last c.loop-k.k c.loop-k.work _ i.rest;
    }

pub returns : goal.returns
returns c =
    let i = c.loop-k.invariant in
    (product_end c.args.boxes.now c.loop-k.k c.args.c c.loop-k.size _ c.loop-k-test.false i.whole, λ j t w l. i.done j t w (omega (arith, c.loop-k-test.false)))
