-- Where there is a row, all are below the limit exactly if the largest is.
use Rattle.std.proofs.Common.{◌<◌, refl, ap, ◌∙◌, arith, length, ltb}
use Rattle.boolean.specs.Functions.{at}
use Rattle.refusals.proofs.Bounds.{largest_below_lem, none_below}
use Rattle.refusals.proofs.rows_below.Goals as goal

pub returns-then-rows-eq0 : goal.returns-then-rows-eq0
returns-then-rows-eq0 c = none_below _ _ c.if-rows-eq0.true

pub returns : goal.returns
returns c =
    let a = c.args in
    let some : 0 < length a.rows.now = omega (arith, c.if-rows-eq0.false) in
    ap (λ k. ltb k a.limit) c.largest_row-most.ensures ∙ largest_below_lem a.limit a.rows.now (at a.rows.now) some (λ x l. refl)
