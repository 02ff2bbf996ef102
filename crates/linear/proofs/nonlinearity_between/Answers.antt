-- `linear::nonlinearity_between` meets its contract: what the checks found says which case it is, and the first mask within the limit whether there is
-- one in the part.
use mathlib.Core.Path.{◌≡◌, sym, ap, ◌∙◌}
use mathlib.Core.List.{List}
use Prim.Native.Nat.{ℕ}
use native.Mathlib.Omega.{arith}
use Rattle.boolean.specs.Selection.{Candidate, shown}
use Rattle.refusals.specs.Table.{figures, first}
use Rattle.refusals.proofs.Checks.{reply_refused, reply_accepted}
use Rattle.linear.specs.Nonlinearity.{part_checks}
use Rattle.linear.proofs.Ranges.{Within, part_accepted, part_from, part_found, part_nothing}
use Rattle.std.specs.Prelude.{Ok}
use Rattle.linear.proofs.nonlinearity_between.Goals as goal

pub first_mask-start-requires : goal.first_mask-start-requires
first_mask-start-requires c = (((part_accepted c.args.n c.args.m c.args.rows.now c.args.i c.args.first c.args.last (sym c.in_ok-check_part.ensures))).limit.i_low, omega (arith, c.ranges.first))

pub returns-then-last-start : goal.returns-then-last-start
returns-then-last-start c =
    let a = c.args in
    ap figures (part_nothing a.n a.m a.rows.now a.last c.first_mask-start.ensures c.if-last-start.true) ∙ reply_accepted (sym c.in_ok-check_part.ensures) _

pub least_between-requires : goal.least_between-requires
least_between-requires c =
    let a = c.args in
    let w = (part_accepted c.args.n c.args.m c.args.rows.now c.args.i c.args.first c.args.last (sym c.in_ok-check_part.ensures)) in
    (w.limit.box, w.limit.i_low, part_from a.n a.m a.rows.now a.last c.first_mask-start.ensures w.low w.high c.if-last-start.false)

pub returns : goal.returns
returns c =
    let a = c.args in
    let w = (part_accepted c.args.n c.args.m c.args.rows.now c.args.i c.args.first c.args.last (sym c.in_ok-check_part.ensures)) in
    ap (λ (k : Candidate). figures (shown k)) c.least_between.ensures
    ∙ ap figures (part_found a.n a.m a.rows.now a.last c.first_mask-start.ensures w.low w.high c.if-last-start.false)
    ∙ reply_accepted (sym c.in_ok-check_part.ensures) _
