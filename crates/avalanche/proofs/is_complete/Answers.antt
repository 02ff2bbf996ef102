-- `avalanche::is_complete` meets its contract: what the checks found says which case it is.
use mathlib.Core.Bool.{Bool}
use mathlib.Core.List.{[]}
use mathlib.Core.Path.{◌≡◌, sym, ap, ◌∙◌}
use Rattle.refusals.specs.Table.{figures, as_figure, first, box_checks}
use Rattle.refusals.proofs.Checks.{box, reply_refused, reply_accepted}
use Rattle.std.specs.Prelude.{Ok}
use Rattle.avalanche.proofs.is_complete.Goals as goal

pub all_complete-requires : goal.all_complete-requires
all_complete-requires c = let a = c.args in box a.n a.m a.rows.now [] (sym c.in_ok-check_box.ensures)
