-- What is listed at y is one entry or none.
use Rattle.std.proofs.Common.{sym, ap, length, arith}
use Rattle.std.proofs.lemmas.List.Edits.{sets}
use Rattle.differential.proofs.Runs.{run_listed, run_unlisted}
use Rattle.differential.proofs.listing.list_run.Goals as goal

pub returns-then-pairs-y : goal.returns-then-pairs-y
returns-then-pairs-y c =
    let a = c.args in
    let none = run_unlisted a.largest a.a a.pairs.now a.y c.if-pairs-y.true in
    (omega (arith, ap length none), ap (sets a.list.now a.next) (sym none))

pub bounds-list-next : goal.bounds-list-next
bounds-list-next c =
    let a = c.args in
    omega (arith, ap length (run_listed a.largest a.a a.pairs.now a.y c.if-pairs-y.false), c.requires.4)

pub returns : goal.returns
returns c =
    let a = c.args in
    let one = run_listed a.largest a.a a.pairs.now a.y c.if-pairs-y.false in
    (omega (arith, ap length one), ap (sets a.list.now a.next) (sym one))
