-- From the calls' outcomes to the promises: a server that its own calls made holds exactly what those calls make of the model's, so what
-- is proved of any calls holds of it. Assumes nothing.
use Rattle.std.specs.Prelude.{Ok}
use Prim.Native.Nat.{ℕ, ◌*◌, ◌-◌, ◌^◌, ◌<◌, ◌≤◌}
use mathlib.Core.Path.{◌≡◌, sym, ap, ◌∙◌, subst}
use mathlib.Core.Logic.{◌↔◌}
use mathlib.Core.Bool.{true}
use mathlib.Core.List.{List, ◌∷◌, ◌++◌, foldl-append}
use lib.ListN.{get_or}
use Rattle.boolean.specs.Selection.{shown}
use Rattle.boolean.proofs.Histories.{stands as Stands-by}
use Rattle.refusals.specs.Table.{first}
use Rattle.linear.specs.Nonlinearity.{nonlinearity}
use Rattle.server.specs.declared.Place.{Place}
use Rattle.server.specs.declared.Server.{Server}
use Rattle.server.specs.Model.{ServerState, start, is_taken, holds, analysis_of, put_checks, put, Progress, ask, still_unfinished, finished}
use Rattle.server.specs.Calls.{state_of_server, place_of, server_of, SoundServer, ServerTold}
use Rattle.server.specs.Statements.{Call, puts, asks, withdraws, steps, runs, after_call, after_all, step_count, keeps, ServerCalled, ServerMade}
use Rattle.server.proofs.Places.{places_at, taken_inside}
use Rattle.server.proofs.Outcomes.{began_stands, put_stands, withdrew_stands, stepped_stands, ran_stands}
use Rattle.server.proofs.Progress as progress

called_stands : (c : Call) (s r : Server) → ServerCalled c s r → SoundServer s → SoundServer r × (state_of_server r ≡ after_call (state_of_server s) c)
unfolding after_call
called_stands (puts p n m rows) s r c h = put_stands c.1 h
called_stands (asks p) s r c h = (subst SoundServer (sym c.2) h, ap state_of_server c.2)
called_stands (withdraws p) s r c h = withdrew_stands c.1 h
called_stands steps s r c h = stepped_stands c h
called_stands (runs k) s r c h = ran_stands c h

-- a server that its own calls made is sound, and stands for those calls
pub made_stands : {calls : List Call} {s : Server} → ServerMade calls s → SoundServer s × (state_of_server s ≡ after_all start calls)
unfolding after_all
made_stands t = Stands-by after_call state_of_server SoundServer (λ s b. began_stands b) called_stands t

-- so every number in it is settled by those calls
pub made_whole : {calls : List Call} {s : Server} → ServerMade calls s → s ≡ server_of (after_all start calls)
made_whole t = let u = made_stands t in u.0.only ∙ ap server_of u.1

-- A box was put on place q, and the calls that followed did not withdraw it.
module _ (n m : ℕ) (rows : List ℕ) (q : ℕ) (before calls : List Call) {s : Server} (t : ServerMade (before ++ (puts q n m rows ∷ calls)) s)
    (accepted : first (put_checks (after_all start before) q n m rows) ≡ (Ok tt)) (kept : keeps q calls ≡ true) where
  abbrev then : ServerState
  then = after_all (put (after_all start before) q n m rows) calls

  stands : state_of_server s ≡ then
  unfolding after_all after_call
  stands = (made_stands t).1 ∙ foldl-append after_call start before (puts q n m rows ∷ calls)

  pub examined : ℕ
  examined = progress.examined n m rows q before calls accepted kept

  pub examined_few : examined ≤ 2 ^ m - 1
  unfolding examined
  examined_few = progress.examined_few n m rows q before calls accepted kept

  -- its place holds its widths and rows, how many of its combinations were examined and what is held of exactly those, and nothing else
  pub place_holds : (d : Place) → get_or s.places (q - 1) d ≡ place_of (holds (analysis_of n m rows examined))
  unfolding examined
  place_holds d =
      let here = progress.held n m rows q before calls accepted kept in
      ap (λ (r : Server). get_or r.places (q - 1) d) ((made_stands t).0.only ∙ ap server_of stands)
      ∙ places_at then.spots (q - 1) d (taken_inside then.spots (q - 1) (ap is_taken here)) ∙ ap place_of here

  module _ {said : Progress} (told : ServerTold s q said) where
    says : said ≡ ask then q
    says = told.standing ∙ ap (λ (x : ServerState). ask x q) stands

    -- asking says "unfinished" exactly until all were examined
    pub asked_unfinished : (said ≡ still_unfinished) ↔ (examined < 2 ^ m - 1)
    unfolding examined
    asked_unfinished =
        let u = progress.unfinished_until n m rows q before calls accepted kept in
        (λ e. u.0 (sym says ∙ e), λ l. says ∙ u.1 l)

    -- in time it answers the plain call's figure and witness
    pub asked_finished : 8 * (2 ^ m - 1) ≤ step_count calls → said ≡ finished (shown (nonlinearity n m rows m))
    asked_finished enough = says ∙ progress.finished_within n m rows q before calls accepted kept enough

  -- and what it answered once it answers until the box is withdrawn
  pub asked_again : (given : List ℕ) → ServerTold s q (finished given) → (later : List Call) {r : Server} → ServerMade (before ++ (puts q n m rows ∷ (calls ++ later))) r
      → keeps q later ≡ true
      → {said : Progress} → ServerTold r q said → said ≡ finished given
  unfolding after_all after_call
  asked_again given told later u k again =
      again.standing
      ∙ ap (λ (x : ServerState). ask x q) ((made_stands u).1 ∙ foldl-append after_call start before (puts q n m rows ∷ (calls ++ later)) ∙ foldl-append after_call (put (after_all start before) q n m rows) calls later)
      ∙ progress.result_kept n m rows q before calls accepted kept given (sym (says told)) later k
