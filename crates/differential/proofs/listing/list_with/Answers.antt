-- `differential::listing::list_with` meets its contract: the list has room for the cells that were counted, or is refused.
use Prim.Native.Nat.{ℕ}
use mathlib.Core.Path.{ap, ◌∙◌}
use mathlib.Core.List.{[], ◌∷◌}
use native.Mathlib.Omega.{arith}
use lib.ListN.{length}
use Rattle.refusals.specs.Table.{figures}
use Rattle.refusals.proofs.Checks.{reply_accepted, after_accepted}
use Rattle.refusals.proofs.Outcomes.{wrote_refused}
use Rattle.differential.specs.XorTable.{largest_cells}
use Rattle.differential.proofs.ListChecks.{too_short, long_enough, written_first}
use Rattle.std.specs.Prelude.{Ok}
use mathlib.Core.Path.{sym}
use Rattle.differential.proofs.listing.list_with.Goals as goal

pub returns-then-list-count-clause-list_called : goal.returns-then-list-count-clause-list_called
returns-then-list-count-clause-list_called c =
    wrote_refused (too_short c.requires.0 c.count_cells-count.ensures.0 (length c.args.list.now) c.if-list-count.true)

pub returns-clause-list_called : goal.returns-clause-list_called
returns-clause-list_called c =
    let count = c.count_cells-count.ensures.0 in
    let old = c.args.list.now in
    let cells = largest_cells c.args.n c.args.m c.args.rows.now in
    let h = long_enough c.requires.0 count (length old) c.if-list-count.false in
    record {
      reply = ap (λ (k : ℕ). figures (k ∷ [])) count ∙ reply_accepted h _;
      content = written_first cells old _ (omega (arith, count, c.if-list-count.false)) c.list_cells.ensures ∙ after_accepted h _ old;
    }
