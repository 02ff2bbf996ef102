-- `swaps::search_box` meets its contract: a raise that was found is the first one, and where none was found there is none.
use Rattle.std.proofs.Common.{◌≡◌, ℕ, List, ap, ◌∙◌}
use Rattle.std.specs.Prelude.{Result, Ok, Err}
use Rattle.std.specs.Result.{result_ok}
use Rattle.refusals.specs.Table.{figures}
use Rattle.swaps.specs.declared.Raise.{Raise}
use Rattle.swaps.specs.Swaps.{swaps, raised}
use Rattle.swaps.specs.Calls.{said_raising_swap}
use Rattle.swaps.specs.Work.{SearchedIn}
use Rattle.swaps.proofs.Accepted.{raised_found, raised_none}
use Rattle.swaps.proofs.search_box.Goals as goal

said : (n m : ℕ) (rows : List ℕ) (found : Result Raise ℕ) → SearchedIn n m rows (swaps n m rows) found
    → said_raising_swap (Ok (result_ok found)) ≡ figures (raised n m rows)
said n m rows (Ok raise) s = ap figures (raised_found s)
said n m rows (Err hint) s = ap figures (raised_none s)

pub returns : goal.returns
returns c =
    let a = c.args in
    ap (λ o. said_raising_swap (Ok o)) c.ok.ensures.value ∙ said a.n a.m a.rows.now c.gather_and_search.result c.gather_and_search.ensures
