-- Any calls with any arguments can be made of a server, one after the other, so that what is proved of a server that its own calls made is
-- proved of every history. Assumes nothing.
use Prim.Native.Nat.{ℕ, zero, suc, ◌-◌}
use mathlib.Core.Path.{◌≡◌, refl, sym, ap, subst}
use mathlib.Core.Logic.{◌↔◌, ⊎_elim}
use mathlib.Core.Bool.{Bool, true, false, false≢true, true≢false}
use mathlib.Core.List.Memᴰ
use mathlib.Core.List.{List, [], ◌∷◌, Memᴰ}
use native.Mathlib.Decide.{ℕ_discrete}
use lib.Dec.{eqb}
use lib.ListN.{get_or}
use borrow.Author.Tests.{eqb-true, eqb-false}
use Rattle.boolean.proofs.Histories as histories
use Rattle.refusals.specs.Table.{first, reply_after}
use Rattle.server.specs.declared.Server.{Server}
use Rattle.server.specs.Model.{start, served, put_checks, held_checks}
use Rattle.server.specs.Calls.{state_of_server, server_of, one_more_place, ServerBegan, ServerStepped, ServerRan, none, more}
use Rattle.server.specs.Statements.{Call, puts, asks, withdraws, steps, runs, keeps, ServerCalled, ServerMade}
use Rattle.server.proofs.Places.{nowhere}
use Rattle.server.proofs.Outcomes.{stepped_none, stepped_some}

-- every call has an outcome, whatever the server
stepped_any : (s : Server) → (r : Server) × ServerStepped s r
stepped_any s = go (ℕ_discrete (served (state_of_server s)) 0)
  where
    go : Dec (served (state_of_server s) ≡ 0) → (r : Server) × ServerStepped s r
    go (yes e) = (s, stepped_none s e)
    go (no e) =
        let q = served (state_of_server s) in
        (_, stepped_some s q (one_more_place (get_or s.places (q - 1) nowhere)) refl e (λ u. refl) refl)

ran_any : (s : Server) (k : ℕ) → (r : Server) × ServerRan s k r
ran_any s zero = (s, none)
ran_any s (suc k) =
    let t = ran_any s k in
    let u = stepped_any t.0 in
    (u.0, more t.1 u.1)

put_any : (place n m : ℕ) (rows : List ℕ) (s : Server) → (r : Server) × ServerCalled (puts place n m rows) s r
put_any place n m rows s =
    (_, (reply_after (first (put_checks (state_of_server s) place n m rows)) [], record { reply = refl; server = refl }))

withdrew_any : (place : ℕ) (s : Server) → (r : Server) × ServerCalled (withdraws place) s r
withdrew_any place s = (_, (reply_after (first (held_checks (state_of_server s) place)) [], record { reply = refl; server = refl }))

pub called_any : (c : Call) (s : Server) → (r : Server) × ServerCalled c s r
called_any (puts place n m rows) s = put_any place n m rows s
called_any (asks place) s = (s, (_, record { standing = refl }, refl))
called_any (withdraws place) s = withdrew_any place s
called_any steps s = stepped_any s
called_any (runs k) s = ran_any s k

-- and so has every list of calls
pub any_made : (calls : List Call) → (s : Server) × ServerMade calls s
any_made calls =
    histories.any_made ServerBegan ServerCalled (λ s. Unit {0}) (λ c s u. let t = called_any c s in (t.0, t.1, tt)) (server_of start)
    (record { server = refl }) tt calls

-- None of the calls withdraws the box of place q: exactly where no such call is among them.
abbrev is_withdrawal : Call → Bool
is_withdrawal (withdraws z) = true
is_withdrawal (puts z n k rows) = false
is_withdrawal (asks z) = false
is_withdrawal steps = false
is_withdrawal (runs k) = false

abbrev place_of_call : Call → ℕ
place_of_call (withdraws z) = z
place_of_call (puts z n k rows) = 0
place_of_call (asks z) = 0
place_of_call steps = 0
place_of_call (runs k) = 0

never : (q : ℕ) (cs : List Call) → keeps q cs ≡ true → Memᴰ (withdraws q) cs → ⊥
unfolding keeps
never q [] h m = Memᴰ.not-nil m
never q (puts p n k rows ∷ cs) h m = ⊎_elim (λ (e : withdraws q ≡ puts p n k rows). true≢false (ap is_withdrawal e)) (λ t. never q cs h t) (Memᴰ.cases_cons m)
never q (asks p ∷ cs) h m = ⊎_elim (λ (e : withdraws q ≡ asks p). true≢false (ap is_withdrawal e)) (λ t. never q cs h t) (Memᴰ.cases_cons m)
never q (steps ∷ cs) h m = ⊎_elim (λ (e : withdraws q ≡ steps). true≢false (ap is_withdrawal e)) (λ t. never q cs h t) (Memᴰ.cases_cons m)
never q (runs k ∷ cs) h m = ⊎_elim (λ (e : withdraws q ≡ runs k). true≢false (ap is_withdrawal e)) (λ t. never q cs h t) (Memᴰ.cases_cons m)
never q (withdraws p ∷ cs) h m = go (eqb p q) refl h (λ k t. never q cs k t)
  where
    go : (b : Bool) → eqb p q ≡ b → elim b [ true ↦ false | false ↦ keeps q cs ] ≡ true → (keeps q cs ≡ true → Memᴰ (withdraws q) cs → ⊥) → ⊥
    go true e k rec = false≢true k
    go false e k rec = ⊎_elim (λ (x : withdraws q ≡ withdraws p). eqb-false p q e (sym (ap place_of_call x))) (λ t. rec k t) (Memᴰ.cases_cons m)

always : (q : ℕ) (cs : List Call) → (Memᴰ (withdraws q) cs → ⊥) → keeps q cs ≡ true
unfolding keeps
always q [] f = refl
always q (puts p n m rows ∷ cs) f = always q cs (λ x. f (Memᴰ.tail x))
always q (asks p ∷ cs) f = always q cs (λ x. f (Memᴰ.tail x))
always q (steps ∷ cs) f = always q cs (λ x. f (Memᴰ.tail x))
always q (runs k ∷ cs) f = always q cs (λ x. f (Memᴰ.tail x))
always q (withdraws p ∷ cs) f = go (eqb p q) refl (always q cs (λ x. f (Memᴰ.tail x)))
  where
    go : (b : Bool) → eqb p q ≡ b → keeps q cs ≡ true → elim b [ true ↦ false | false ↦ keeps q cs ] ≡ true
    go true e rec = absurd (f (subst (λ (z : ℕ). Memᴰ (withdraws q) (withdraws z ∷ cs)) (sym (eqb-true p q e)) (Memᴰ.head refl)))
    go false e rec = rec

pub keeps_exactly : (q : ℕ) (calls : List Call) → (keeps q calls ≡ true) ↔ (Memᴰ (withdraws q) calls → ⊥)
keeps_exactly q calls = (λ h m. never q calls h m, λ f. always q calls f)
