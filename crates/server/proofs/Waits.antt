-- What is kept of the places while a server runs: marked one after the other at the start, and after each step. Assumes nothing.
use Prim.Native.Nat.{ℕ, ◌+◌, ◌<◌}
use mathlib.Core.Path.{◌≡◌, sym, ap, ◌∙◌}
use mathlib.Core.Bool.{Bool, true, false}
use mathlib.Core.List.{List}
use native.Mathlib.Omega.{arith}
use native.Mathlib.Decide.{ℕ_discrete}
use lib.ListN.{length, get_or, set, length-set}
use lib.Seq.{get_or-set_same, get_or-set_other}
use Rattle.server.specs.declared.Place.{Place}
use Rattle.server.specs.declared.Server.{Server}
use Rattle.server.specs.Model.{Spot, empty, unfinished}
use Rattle.server.specs.Calls.{spot_in, spots}
use Rattle.server.specs.Work.{Waiting}
use Rattle.server.proofs.Places.{nowhere, spots_at, spots_set, unfinished_inside}

-- the places below k are marked
pub record Marked (s : Server) (waiting : List Bool) (k : ℕ) : Type 0 where
  pub size : length waiting ≡ 8
  pub marked : (i : ℕ) → i < k → get_or waiting i false ≡ unfinished (get_or (spots s.places) i empty)

pub marked_none : (s : Server) (waiting : List Bool) → length waiting ≡ 8 → Marked s waiting 0
marked_none s waiting e = record { size = e; marked = λ i l. absurd (omega arith) }

pub marked_more : (s : Server) (waiting : List Bool) (k : ℕ) (b : Bool) → k < 8 → Marked s waiting k
    → b ≡ unfinished (spot_in (get_or s.places k nowhere)) → Marked s (set waiting k b) (k + 1)
marked_more s waiting k b l m e = record { size = length-set waiting k b ∙ m.size; marked = λ i h. go i h (ℕ_discrete i k) }
  where
    go : (i : ℕ) → i < k + 1 → Dec (i ≡ k) → get_or (set waiting k b) i false ≡ unfinished (get_or (spots s.places) i empty)
    go i h (yes q) =
        ap (λ (j : ℕ). get_or (set waiting k b) j false) q ∙ get_or-set_same waiting k b false (omega (arith, m.size)) ∙ e
        ∙ sym (ap unfinished (spots_at s.places k)) ∙ sym (ap (λ (j : ℕ). unfinished (get_or (spots s.places) j empty)) q)
    go i h (no q) = get_or-set_other waiting k i b false q ∙ m.marked i (omega arith)

pub marked_all : {s : Server} {waiting : List Bool} → Marked s waiting 8 → Waiting s waiting
marked_all m = record { size = m.size; marked = m.marked }

-- an unfinished box gives way to another, or to the same after a step, and its mark is made anew
pub waiting_served : (s : Server) (waiting : List Bool) (k last : ℕ) (v : Place) (b : Bool) → k < 8 → Waiting s waiting
    → unfinished (get_or (spots s.places) k empty) ≡ true → b ≡ unfinished (spot_in v)
    → Waiting (record { places = set s.places k v; last = last }) (set waiting k b)
waiting_served s waiting k last v b l w u e = record { size = length-set waiting k b ∙ w.size; marked = λ i h. go i h (ℕ_discrete i k) }
  where
    same : (i : ℕ) → unfinished (get_or (spots (set s.places k v)) i empty) ≡ unfinished (get_or (set (spots s.places) k (spot_in v)) i empty)
    same i = ap (λ (xs : List Spot). unfinished (get_or xs i empty)) (spots_set s.places k v)

    go : (i : ℕ) → i < 8 → Dec (i ≡ k) → get_or (set waiting k b) i false ≡ unfinished (get_or (spots (set s.places k v)) i empty)
    go i h (yes q) =
        ap (λ (j : ℕ). get_or (set waiting k b) j false) q ∙ get_or-set_same waiting k b false (omega (arith, w.size)) ∙ e
        ∙ sym (ap unfinished (get_or-set_same (spots s.places) k (spot_in v) empty (unfinished_inside (spots s.places) k u)))
        ∙ sym (same k) ∙ sym (ap (λ (j : ℕ). unfinished (get_or (spots (set s.places k v)) j empty)) q)
    go i h (no q) =
        get_or-set_other waiting k i b false q ∙ w.marked i h ∙ sym (ap unfinished (get_or-set_other (spots s.places) k i (spot_in v) empty q))
        ∙ sym (same i)
