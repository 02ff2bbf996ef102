-- `differential::largest_cell` meets its contract: what the checks found says which case it is, and the sweep has the figure and its cell.
use mathlib.Core.Path.{◌≡◌, refl, sym, ap, ◌∙◌}
use mathlib.Core.List.{[]}
use Rattle.boolean.specs.Selection.{Candidate, shown}
use Rattle.refusals.specs.Table.{figures, first, box_checks}
use Rattle.refusals.proofs.Checks.{box, reply_refused, reply_accepted}
use Rattle.std.specs.Prelude.{Ok}
use Rattle.differential.proofs.largest_cell.Goals as goal

pub find_largest-requires : goal.find_largest-requires
find_largest-requires c = let a = c.args in (box a.n a.m a.rows.now [] (sym c.in_ok-check_box.ensures), refl)
