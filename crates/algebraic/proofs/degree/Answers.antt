-- `algebraic::degree` meets its contract: what the checks found says which case it is, and the sweep has the weakest component.
use mathlib.Core.Path.{◌≡◌, refl, sym, ap, ◌∙◌}
use lib.Seq.{length-take-le}
use Rattle.boolean.specs.Selection.{Candidate, shown}
use Rattle.refusals.specs.Table.{figures, first, limit_checks, Box}
use Rattle.refusals.proofs.Checks.{Limited, limited, reply_refused, reply_accepted}
use Rattle.std.specs.Prelude.{Ok}
use Rattle.algebraic.proofs.degree.Goals as goal

pub slice_bounds-words-end : goal.slice_bounds-words-end
slice_bounds-words-end c = ((((limited c.args.n c.args.m c.args.rows.now c.args.i (sym c.in_ok-check_limited.ensures))).box)).small

pub slice_bounds-weakest_of-end : goal.slice_bounds-weakest_of-end
slice_bounds-weakest_of-end c = sym (length-take-le _ _ ((((limited c.args.n c.args.m c.args.rows.now c.args.i (sym c.in_ok-check_limited.ensures))).box)).small)

pub weakest_of-found-requires : goal.weakest_of-found-requires
weakest_of-found-requires c = let l = (limited c.args.n c.args.m c.args.rows.now c.args.i (sym c.in_ok-check_limited.ensures)) in (l.box, l.i_low, length-take-le _ _ l.box.small ∙ l.box.size, refl)
