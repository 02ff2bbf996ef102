use Rattle.server.proofs.Boxes.{fresh_place}
use Rattle.server.proofs.fresh.Goals as goal

pub returns : goal.returns
returns c = fresh_place c.args.n c.args.m c.args.rows.now _ c.requires.size c.copy_from_slice.ensures.after
