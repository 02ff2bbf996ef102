use Rattle.std.proofs.lemmas.Result.{err_from_is_err_and}
use Rattle.rounds.proofs.Slices.{checks_refuse, checks_pass, checks_end}
use Rattle.rounds.proofs.check_boxes.Goals as goal

pub returns-in_err-check_box : goal.returns-in_err-check_box
returns-in_err-check_box c =
    let p = err_from_is_err_and c.from_residual.result c.from_residual.ensures.1 in
    rw (p.1, p.2)
    (checks_refuse c.args.boxes.now c.loop-s.s-index _ c.loop-s-test.true c.loop-s.invariant _ c.in_err-check_box.ensures)

pub loop-s-preserved : goal.loop-s-preserved
loop-s-preserved c = checks_pass c.args.boxes.now c.loop-s.s-index _ c.loop-s-test.true c.loop-s.invariant c.in_ok-check_box.ensures

pub returns : goal.returns
returns c = checks_end c.args.boxes.now c.loop-s.s-index c.loop-s-test.false c.loop-s.invariant
