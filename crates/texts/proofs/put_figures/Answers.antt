use Rattle.std.proofs.Common.{arith}
use Rattle.texts.proofs.Spacing.{spacing_none, spacing_room, spacing_next, spacing_all}
use Rattle.texts.proofs.put_figures.Goals as goal

pub loop-figure-init : goal.loop-figure-init
loop-figure-init c = spacing_none

pub put_figure-next-requires : goal.put_figure-next-requires
put_figure-next-requires c = spacing_room c.loop-figure.invariant (omega arith) (omega arith)

pub loop-figure-preserved : goal.loop-figure-preserved
loop-figure-preserved c =
    spacing_next c.loop-figure.invariant (omega arith) c.put_figure-next.ensures.0 c.put_figure-next.ensures.1

pub returns : goal.returns
returns c = spacing_all c.loop-figure.invariant (omega arith)
