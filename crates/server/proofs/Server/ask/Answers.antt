-- `server::Server::ask` meets its contract: what the checks found says which case it is, and then what is left to examine.
use Rattle.std.proofs.lemmas.Result.{err_from_is_err_and}
use mathlib.Core.Path.{◌≡◌, sym, ◌∙◌}
use native.Mathlib.Omega.{arith}
use Rattle.refusals.specs.Table.{first}
use Rattle.server.specs.Model.{held_checks}
use Rattle.server.specs.Calls.{state_of_server}
use Rattle.server.proofs.Checks.{held_low, held_high, ask_refused, ask_unfinished, ask_finished}
use Rattle.std.specs.Prelude.{Ok}
use Rattle.server.proofs.Server.ask.Goals as goal

pub returns-in_err-check_held : goal.returns-in_err-check_held
returns-in_err-check_held c =
    let p = err_from_is_err_and c.from_residual.result c.from_residual.ensures.1 in
    rw (p.1, p.2)
    (ask_refused c.args.self c.args.place (sym c.in_err-check_held.ensures))

pub overflow_sub-i : goal.overflow_sub-i
overflow_sub-i c = held_low _ _ (sym c.in_ok-check_held.ensures)

pub bounds-self-i : goal.bounds-self-i
bounds-self-i c = let a = c.args in omega (arith, held_low (state_of_server a.self) a.place (sym c.in_ok-check_held.ensures), held_high (state_of_server a.self) a.place (sym c.in_ok-check_held.ensures))

pub returns-then-unfinished : goal.returns-then-unfinished
returns-then-unfinished c =
    let a = c.args in
    ask_unfinished a.self a.place (sym c.in_ok-check_held.ensures) (sym c.unfinished.ensures ∙ c.if-unfinished.true)

pub returns : goal.returns
returns c =
    let a = c.args in
    ask_finished a.self a.place (sym c.in_ok-check_held.ensures) (sym c.unfinished.ensures ∙ c.if-unfinished.false)
