-- The lines before are printed one behind the other; the one that is refused ends them.
use Rattle.sheet.specs.Sheet.{sheet_lines}
use Rattle.sheet.proofs.Printing.{lines_none, lines_stop, lines_more}
use Rattle.sheet.proofs.write_figures.Goals as goal

pub returns-in_err-end-clause-lines : goal.returns-in_err-end-clause-lines
unfolding sheet_lines
returns-in_err-end-clause-lines c = lines_stop c.in_err-end.ensures

pub returns-in_err-end-2-clause-lines : goal.returns-in_err-end-2-clause-lines
unfolding sheet_lines
returns-in_err-end-2-clause-lines c = lines_more c.in_ok-end.ensures (lines_stop c.in_err-end-2.ensures)

pub returns-in_err-end-3-clause-lines : goal.returns-in_err-end-3-clause-lines
unfolding sheet_lines
returns-in_err-end-3-clause-lines c =
    lines_more c.in_ok-end.ensures (lines_more c.in_ok-end-2.ensures
    (lines_stop c.in_err-end-3.ensures))

pub returns-in_err-end-4-clause-lines : goal.returns-in_err-end-4-clause-lines
unfolding sheet_lines
returns-in_err-end-4-clause-lines c =
    lines_more c.in_ok-end.ensures (lines_more c.in_ok-end-2.ensures
    (lines_more c.in_ok-end-3.ensures (lines_stop c.in_err-end-4.ensures)))

pub returns-in_err-end-5-clause-lines : goal.returns-in_err-end-5-clause-lines
unfolding sheet_lines
returns-in_err-end-5-clause-lines c =
    lines_more c.in_ok-end.ensures (lines_more c.in_ok-end-2.ensures
    (lines_more c.in_ok-end-3.ensures (lines_more c.in_ok-end-4.ensures (lines_stop c.in_err-end-5.ensures))))

pub returns-in_err-end-6-clause-lines : goal.returns-in_err-end-6-clause-lines
unfolding sheet_lines
returns-in_err-end-6-clause-lines c =
    lines_more c.in_ok-end.ensures (lines_more c.in_ok-end-2.ensures
    (lines_more c.in_ok-end-3.ensures (lines_more c.in_ok-end-4.ensures (lines_more c.in_ok-end-5.ensures
    (lines_stop c.in_err-end-6.ensures)))))

pub returns-in_err-end-7-clause-lines : goal.returns-in_err-end-7-clause-lines
unfolding sheet_lines
returns-in_err-end-7-clause-lines c =
    lines_more c.in_ok-end.ensures (lines_more c.in_ok-end-2.ensures
    (lines_more c.in_ok-end-3.ensures (lines_more c.in_ok-end-4.ensures (lines_more c.in_ok-end-5.ensures
    (lines_more c.in_ok-end-6.ensures (lines_stop c.in_err-end-7.ensures))))))

pub returns-in_err-end-8-clause-lines : goal.returns-in_err-end-8-clause-lines
unfolding sheet_lines
returns-in_err-end-8-clause-lines c =
    lines_more c.in_ok-end.ensures (lines_more c.in_ok-end-2.ensures
    (lines_more c.in_ok-end-3.ensures (lines_more c.in_ok-end-4.ensures (lines_more c.in_ok-end-5.ensures
    (lines_more c.in_ok-end-6.ensures (lines_more c.in_ok-end-7.ensures (lines_stop c.in_err-end-8.ensures)))))))

pub returns-clause-lines : goal.returns-clause-lines
unfolding sheet_lines
returns-clause-lines c =
    lines_more c.in_ok-end.ensures (lines_more c.in_ok-end-2.ensures (lines_more c.in_ok-end-3.ensures (lines_more c.in_ok-end-4.ensures
    (lines_more c.in_ok-end-5.ensures (lines_more c.in_ok-end-6.ensures (lines_more c.in_ok-end-7.ensures
    (lines_more c.in_ok-end-8.ensures lines_none)))))))
