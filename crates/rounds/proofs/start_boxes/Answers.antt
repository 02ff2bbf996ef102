use Rattle.std.proofs.Common.{◌∙◌, ◌<◌, length, arith, length-set}
use Rattle.rounds.proofs.Slices.{summed_length, box_of, stepped_more}
use Rattle.rounds.proofs.start_boxes.Goals as goal

pub start_box-requires : goal.start_box-requires
start_box-requires c = box_of c.args.boxes.now c.loop-k.k _ c.requires c.loop-k-test.true

pub loop-k-preserved : goal.loop-k-preserved
loop-k-preserved c =
    let boxes = c.args.boxes.now in
    let i = c.loop-k.invariant in
    let h = c.loop-k-test.true in
    let room : c.loop-k.k < length c.loop-k.work = omega (arith, c.requires.few, summed_length boxes) in
    record {
      room = length-set _ _ _ ∙ i.room;
      done = stepped_more boxes c.args.c c.loop-k.k c.loop-k.work _ _ room h c.start_box.ensures i.done;
    }
