-- A step of a server that its own calls made: the next unfinished place has one combination more, and every other is as it was; and which
-- were examined. Assumes nothing.
use Prim.Native.Nat.{ℕ, suc, ◌+◌, ◌-◌, ◌%◌, ◌^◌, ◌≤◌, ◌<◌}
use mathlib.Core.Path.{◌≡◌, sym, ap, ◌∙◌}
use mathlib.Core.Logic.{◌↔◌}
use mathlib.Core.Bool.{true, false}
use mathlib.Core.List.{List, Memᴰ}
use native.Mathlib.Omega.{arith}
use lib.ListN.{length, get_or, set}
use lib.Pow.{pow_pos}
use lib.Seq.{get_or-set_same, get_or-set_other}
use Rattle.server.specs.declared.Server.{Server}
use Rattle.server.specs.Model.{ServerState, Spot, spot_at, empty, unfinished, advanced, serve, examined_of}
use Rattle.server.specs.Calls.{state_of_server, ServerStepped}
use Rattle.server.specs.Statements.{Call, ServerMade}
use Rattle.server.proofs.Examined as examined
use Rattle.server.proofs.Made as evaluation
use Rattle.server.proofs.Outcomes as outcomes
use Rattle.server.proofs.Progress as progress
use Rattle.server.proofs.Places.{unfinished_inside}

pub step_examines : (made_by : List Call) (s r : Server) → ServerMade made_by s → ServerStepped s r → (k : ℕ) → k < 8
    → unfinished (spot_at (state_of_server s) ((s.last + k) % 8 + 1)) ≡ true
    → ((h : ℕ) → h < k → unfinished (spot_at (state_of_server s) ((s.last + h) % 8 + 1)) ≡ false)
    → (r.last ≡ (s.last + k) % 8 + 1)
    × (spot_at (state_of_server r) ((s.last + k) % 8 + 1) ≡ advanced (spot_at (state_of_server s) ((s.last + k) % 8 + 1)))
    × ((p : ℕ) → 1 ≤ p → ¬ (p ≡ (s.last + k) % 8 + 1) → spot_at (state_of_server r) p ≡ spot_at (state_of_server s) p)
step_examines made_by s r made stepped k l some none =
    let t = evaluation.made_stands made in
    let i : ℕ = (s.last + k) % 8 in
    let one : (s.last + k) % 8 + 1 ≡ suc i = omega arith in
    let is : state_of_server r ≡ serve (state_of_server s) (suc i) =
    (outcomes.stepped_stands stepped t.0).1 ∙ progress.step_serves (state_of_server s) k l some none ∙ ap (serve (state_of_server s)) one in
    let xs : List Spot = (state_of_server s).spots in
    let here : (s.last + k) % 8 + 1 - 1 ≡ i = omega arith in
    let inside : i < length xs = unfinished_inside xs i (ap (λ (j : ℕ). unfinished (get_or xs j empty)) (sym here) ∙ some) in (
      ap (λ (x : ServerState). x.last) is ∙ sym one,
      ap (λ (x : ServerState). spot_at x ((s.last + k) % 8 + 1)) is
          ∙ ap (λ (j : ℕ). get_or (set xs i (advanced (get_or xs i empty))) j empty) here ∙ get_or-set_same xs i _ empty inside
          ∙ ap (λ (j : ℕ). advanced (get_or xs j empty)) (sym here),
      λ p low other. ap (λ (x : ServerState). spot_at x p) is ∙ get_or-set_other xs i (p - 1) _ empty (λ e. other (omega arith)),
    )

-- where k combinations were examined, they are 1 to k
pub next_examined : (m k c : ℕ) → k ≤ 2 ^ m - 1 → Memᴰ c (examined_of m k) ↔ ((1 ≤ c) × (c ≤ k))
next_examined m k c few =
    (λ h. let t = examined.was_examined m k c h in (t.0.low, t.1), λ t. examined.examined_has m k c t.0 t.1 (omega (arith, few, t.1, pow_pos m)))
