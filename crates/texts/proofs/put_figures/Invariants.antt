use Rattle.texts.proofs.Spacing.{Spacing}
use Rattle.texts.proofs.put_figures.Given as goal

abbrev pub invariant-loop-figure : goal.invariant-loop-figure
invariant-loop-figure l = Spacing l.figures l.at l.fn.out l.figure-index l.next l.out
