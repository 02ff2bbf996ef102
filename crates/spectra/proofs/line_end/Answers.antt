-- The line ends at a line end, at the end of the text, or else where the one that starts at the next byte ends.
use Rattle.std.proofs.Common.{◌≡◌, length, ap, sym, ◌∙◌, arith}
use Rattle.spectra.specs.Reading.{line_end}
use Rattle.spectra.proofs.Reading.{ends_here, ends_further, ends_with_text}
use Rattle.spectra.proofs.line_end.Goals as goal

pub returns-then-text-at-eq-LINE_END : goal.returns-then-text-at-eq-LINE_END
returns-then-text-at-eq-LINE_END c =
    (ends_here c.args.text.now c.loop-at.at c.loop-at-test.true c.if-text-at-eq-LINE_END.true ∙ sym c.loop-at.invariant, omega arith, omega arith)

pub loop-at-preserved : goal.loop-at-preserved
loop-at-preserved c =
    c.loop-at.invariant ∙ ends_further c.args.text.now c.loop-at.at c.loop-at-test.true c.if-text-at-eq-LINE_END.false

pub returns : goal.returns
returns c =
    let text = c.args.text.now in
    let over : c.loop-at.at ≡ length text = omega arith in
    (ends_with_text text (length text) (omega arith) ∙ ap (line_end text) (sym over) ∙ sym c.loop-at.invariant, omega arith, omega arith)
