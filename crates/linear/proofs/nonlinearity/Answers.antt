-- `linear::nonlinearity` meets its contract: what the checks found says which case it is, and the part of all masks has the figure and its pair. Assumes
-- nothing.
use mathlib.Core.Path.{◌≡◌, sym, ap, ◌∙◌}
use Prim.Native.Nat.{ℕ, ◌-◌}
use native.Mathlib.Omega.{arith}
use lib.Pow.{pow_pos}
use Rattle.boolean.specs.Selection.{Candidate, shown}
use Rattle.refusals.specs.Table.{figures, first, limit_checks}
use Rattle.refusals.proofs.Checks.{Limited, limited, reply_refused, reply_accepted}
use Rattle.linear.proofs.Ranges.{whole_part, whole_least}
use Rattle.std.specs.Prelude.{Ok}
use Rattle.linear.proofs.nonlinearity.Goals as goal

pub power_of_two-requires : goal.power_of_two-requires
power_of_two-requires c = ((limited c.args.n c.args.m c.args.rows.now c.args.i (sym c.in_ok-check_limited.ensures))).box.m_high

pub least_between-requires : goal.least_between-requires
least_between-requires c =
    let w = (limited c.args.n c.args.m c.args.rows.now c.args.i (sym c.in_ok-check_limited.ensures)) in
    (w.box, w.i_low, whole_part w.box.m_low w.i_low c.power_of_two.ensures.0)

pub returns : goal.returns
returns c =
    let a = c.args in
    ap (λ (k : Candidate). figures (shown k)) (c.least_between.ensures ∙ whole_least a.n a.m a.rows.now a.i c.power_of_two.ensures.0)
    ∙ reply_accepted (sym c.in_ok-check_limited.ensures) _
