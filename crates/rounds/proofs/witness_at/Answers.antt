use Rattle.std.proofs.Common.{◌<◌, arith}
use Rattle.rounds.proofs.Slices.{summed_length, box_of, mask_of, gathered_more, gathered_end}
use Rattle.rounds.proofs.witness_at.Goals as goal

pub top_of-top-requires : goal.top_of-top-requires
top_of-top-requires c =
    let p = c.requires in
    let boxes = c.args.boxes.now in
    let h = c.loop-k-test.true in
    (box_of boxes c.loop-k.k _ p.0 h, p.1, mask_of boxes c.loop-k.k _ p.0 h c.args.c p.2)

pub loop-k-preserved : goal.loop-k-preserved
loop-k-preserved c =
    let boxes = c.args.boxes.now in
    let few : c.loop-k.k < 4 = omega (arith, c.requires.0.few, summed_length boxes) in
    gathered_more boxes c.args.c c.loop-k.k c.loop-k.masks c.loop-k.b _ c.top_of-top.result c.loop-k-test.true few c.top_of-top.ensures c.loop-k.invariant

pub returns : goal.returns
returns c = gathered_end c.args.boxes.now c.args.c c.loop-k.k c.loop-k.masks c.loop-k.b (omega arith) c.loop-k.invariant
