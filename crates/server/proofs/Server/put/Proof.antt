-- `server::Server::put` meets its contract: refused, the server is as it was; else the box is on the place. Assumes nothing.
use Rattle.std.specs.Prelude.{Ok}
use Prim.Native.Nat.{◌-◌}
use mathlib.Core.Path.{◌≡◌, sym, ap, ◌∙◌}
use native.Mathlib.Omega.{arith}
use borrow.Author.Rules.{rules}
use Rattle.refusals.specs.Table.{first}
use Rattle.server.specs.Model.{put_checks}
use Rattle.server.specs.Calls.{state_of_server, replaced}
use Rattle.server.proofs.Checks.{put_low, put_high, put_box, refused_put, accepted_put}
use Rattle.server.proofs.Server.put.Statement.{statement}
use Rattle.server.proofs.Server.put.Tie as tie

returns : tie.Need-returns-in-Err
returns c =
    let a = c.args in
    refused_put a.self a.place a.n a.m a.rows.now (sym c.check_put.ensures ∙ c.in-Err.is) c.declined.ensures

accepted : (c : tie.In_default) →
    let a = c.args in
    first (put_checks (state_of_server a.self) a.place a.n a.m a.rows.now) ≡ (Ok tt)
accepted c = sym c.check_put.ensures ∙ c.in_default.is

sub_i : tie.Need-overflow_sub-i
sub_i c = put_low _ _ _ _ _ (accepted c)

fresh_requires : tie.Need-fresh-with_box-requires
fresh_requires c κs = put_box _ _ _ _ _ (accepted c)

with_place_requires : tie.Need-with_place-filled-requires
with_place_requires c κs =
    let a = c.args in
    let h = accepted c.before in
    let s = state_of_server a.self in
    omega (arith, put_low s a.place a.n a.m a.rows.now h, put_high s a.place a.n a.m a.rows.now h)

returns-2 : tie.Need-returns
returns-2 c =
    let a = c.args in
    accepted_put a.self a.place a.n a.m a.rows.now (accepted c.before.before)
    (c.with_place-filled.ensures ∙ ap (replaced a.self (a.place - 1)) c.fresh-with_box.ensures)

pub put_spec : {M : Type 1} → statement M
put_spec =
    tie.close
    (tie.spec (λ c κs. search rules) (λ c. search rules) (λ c κs. search rules) returns (λ c. search rules) sub_i (λ c. search rules) fresh_requires with_place_requires returns-2)
