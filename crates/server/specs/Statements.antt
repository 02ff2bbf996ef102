-- What the theorems speak of: any calls with any arguments, one after the other, a server that they made, and what it holds of a box.
use Rattle.std.specs.Prelude.{ℕ, suc, ◌+◌, ◌≤◌, ◌<◌, ◌≡◌, Bool, true, false, eqb}
use mathlib.Core.List.{List, [], ◌∷◌, foldl}
use Rattle.boolean.specs.Functions.{component, distance}
use Rattle.boolean.specs.Statements.{MadeBy}
use Rattle.refusals.specs.Table.{Reply}
use Rattle.linear.specs.Statements.{IsPair, PairBefore}
use Rattle.server.specs.declared.Server.{Server}
use Rattle.server.specs.Model.{among, ServerState, put, withdraw, step, run, Progress}
use Rattle.server.specs.Calls.{ServerBegan, ServerPut, ServerWithdrew, ServerTold, ServerStepped, ServerRan}

pub data Call : Type 0 where
  puts : (place n m : ℕ) (rows : List ℕ) → Call
  asks : (place : ℕ) → Call
  withdraws : (place : ℕ) → Call
  steps : Call
  runs : (budget : ℕ) → Call

-- the state that one of them makes, and that after several, one after the other
unfoldable pub after_call : (s : ServerState) (c : Call) → ServerState
unfolding put withdraw step run
after_call s (puts p n m rows) = put s p n m rows
after_call s (asks p) = s
after_call s (withdraws p) = withdraw s p
after_call s steps = step s
after_call s (runs k) = run s k

unfoldable pub after_all : (s : ServerState) (calls : List Call) → ServerState
unfolding after_call
after_all s calls = foldl after_call s calls

-- how many steps calls make
unfoldable pub step_count : List Call → ℕ
step_count [] = 0
step_count (puts p n m rows ∷ cs) = step_count cs
step_count (asks p ∷ cs) = step_count cs
step_count (withdraws p ∷ cs) = step_count cs
step_count (steps ∷ cs) = suc (step_count cs)
step_count (runs k ∷ cs) = k + step_count cs

-- none of the calls withdraws the box of place q
unfoldable pub keeps : (q : ℕ) (calls : List Call) → Bool
keeps q [] = true
keeps q (puts p n m rows ∷ cs) = keeps q cs
keeps q (asks p ∷ cs) = keeps q cs
keeps q (withdraws p ∷ cs) = elim (eqb p q) [ true ↦ false | false ↦ keeps q cs ]
keeps q (steps ∷ cs) = keeps q cs
keeps q (runs k ∷ cs) = keeps q cs

-- what a call does with a server s, whatever it says: its contract. Asking leaves the caller's server as it is.
abbrev pub ServerCalled : (c : Call) (s r : Server) → Type 0
ServerCalled (puts place n m rows) s r = (said : Reply) × ServerPut s place n m rows said r
ServerCalled (asks place) s r = (said : Progress) × ServerTold s place said × (r ≡ s)
ServerCalled (withdraws place) s r = (said : Reply) × ServerWithdrew s place said r
ServerCalled steps s r = ServerStepped s r
ServerCalled (runs budget) s r = ServerRan s budget r

-- A server of the code that these calls made, from an empty one on.
abbrev pub ServerMade : (calls : List Call) (s : Server) → Type 0
ServerMade calls s = MadeBy ServerBegan ServerCalled calls s

-- What is held of a box of which the combinations 1 to k were examined: the least count among exactly their pairs, and the first that has
-- it.
pub record HeldSoFar (n m : ℕ) (rows : List ℕ) (k : ℕ) : Type 0 where
  pub d : ℕ
  pub c : ℕ
  pub w : ℕ
  pub b : ℕ
  pub holds : among n m rows k ≡ record { figure = d; witness = c ∷ w ∷ b ∷ [] }
  pub least : (c' w' b' : ℕ) → c' ≤ k → IsPair n m m c' w' b' → d ≤ distance n (component rows c') w' b'
  pub examined : c ≤ k
  pub member : IsPair n m m c w b
  pub reached : distance n (component rows c) w b ≡ d
  pub before : (c' w' b' : ℕ) → c' ≤ k → IsPair n m m c' w' b' → PairBefore c' w' b' c w b → d < distance n (component rows c') w' b'
