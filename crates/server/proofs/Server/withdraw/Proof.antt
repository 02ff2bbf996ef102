-- `server::Server::withdraw` meets its contract: refused, the server is as it was; else the place is empty. Assumes nothing.
use Rattle.std.specs.Prelude.{Ok}
use Prim.Native.Nat.{◌-◌}
use mathlib.Core.Path.{◌≡◌, sym, ap, ◌∙◌}
use native.Mathlib.Omega.{arith}
use borrow.Author.Rules.{rules}
use Rattle.refusals.specs.Table.{first}
use Rattle.server.specs.Model.{held_checks}
use Rattle.server.specs.Calls.{state_of_server, replaced}
use Rattle.server.proofs.Checks.{held_low, held_high, refused_withdrawal, accepted_withdrawal}
use Rattle.server.proofs.Server.withdraw.Statement.{statement}
use Rattle.server.proofs.Server.withdraw.Tie as tie

returns : tie.Need-returns-in-Err
returns c =
    refused_withdrawal c.args.self c.args.place (sym c.check_held.ensures ∙ c.in-Err.is)
    c.declined.ensures

accepted : (c : tie.In_default) →
    let a = c.args in
    first (held_checks (state_of_server a.self) a.place) ≡ (Ok tt)
accepted c = sym c.check_held.ensures ∙ c.in_default.is

sub_i : tie.Need-overflow_sub-i
sub_i c = held_low _ _ (accepted c)

with_place_requires : tie.Need-with_place-cleared-requires
with_place_requires c κs =
    let a = c.args in
    omega (arith, held_low (state_of_server a.self) a.place (accepted c.before), held_high (state_of_server a.self) a.place (accepted c.before))

returns-2 : tie.Need-returns
returns-2 c =
    let a = c.args in
    accepted_withdrawal a.self a.place (accepted c.before.before)
    (c.with_place-cleared.ensures ∙ ap (replaced a.self (a.place - 1)) c.vacant-none.ensures)

pub withdraw_spec : {M : Type 1} → statement M
withdraw_spec =
    tie.close
    (tie.spec (λ c κs. search rules) (λ c. search rules) (λ c κs. search rules) returns (λ c. search rules) sub_i (λ c. search rules) (λ c κs. search rules) with_place_requires returns-2)
