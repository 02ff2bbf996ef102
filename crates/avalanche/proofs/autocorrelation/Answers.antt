-- `avalanche::autocorrelation` meets its contract: the order (i, n) leaves out no change.
use mathlib.Core.Path.{◌≡◌, sym, ap, ◌∙◌}
use native.Mathlib.Omega.{arith}
use Rattle.boolean.specs.Selection.{Candidate, shown, first_largest}
use Rattle.refusals.specs.Table.{figures, first, limit_checks}
use Rattle.refusals.proofs.Checks.{Limited, limited, reply_refused, reply_accepted}
use Rattle.avalanche.specs.Avalanche.{box_autocorrelation, correlated}
use Rattle.linear.proofs.Ranges.{whole_part}
use Rattle.avalanche.proofs.Ranges.{whole_largest}
use lib.Pow.{pow_pos}
use Rattle.std.specs.Prelude.{Ok}
use Rattle.avalanche.proofs.autocorrelation.Goals as goal

pub power_of_two-requires : goal.power_of_two-requires
power_of_two-requires c = ((limited c.args.n c.args.m c.args.rows.now c.args.i (sym c.in_ok-check_limited.ensures))).box.m_high

pub largest_correlation-requires : goal.largest_correlation-requires
largest_correlation-requires c =
    let l = (limited c.args.n c.args.m c.args.rows.now c.args.i (sym c.in_ok-check_limited.ensures)) in (l.box, omega arith, omega arith, whole_part l.box.m_low l.i_low c.power_of_two.ensures.0)

pub returns : goal.returns
unfolding box_autocorrelation
returns c =
    let a = c.args in
    ap (λ (k : Candidate). figures (shown k))
    (c.largest_correlation.ensures ∙ ap first_largest (whole_largest a.n a.m a.i a.n (correlated a.n a.rows.now) c.power_of_two.ensures.0))
    ∙ reply_accepted (sym c.in_ok-check_limited.ensures) _
