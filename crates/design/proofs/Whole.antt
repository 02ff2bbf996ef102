-- A sound design holds its state and nothing else: past the rows of the box and of each mark there are zeros, and a mark that is not set is zeros alone.
-- So it is a function of its state, and each state that is sound is one design's. Assumes nothing.
use Prim.Native.Nat.{ℕ, zero, suc, ◌^◌, ◌<◌, ◌≤◌}
use mathlib.Core.Path.{◌≡◌, refl, sym, ap, ◌∙◌}
use mathlib.Core.List.{List, [], ◌∷◌, ◌++◌}
use native.Mathlib.Nat.{not-suc-le-zero, le_of_suc-le-suc}
use native.Mathlib.Omega.{arith}
use lib.ListN.{length, get_or, set, take, drop, replicate, length-set}
use lib.Seq.{take-set-lt, length-take-le, set-append_left}
use Rattle.refusals.specs.Table.{filled}
use Rattle.refusals.proofs.FilledRows.{filled_rows}
use Rattle.boolean.specs.Sums.{list_below, list_from}
use Rattle.design.specs.declared.Snapshot.{Snapshot}
use Rattle.design.specs.declared.Design.{Design}
use Rattle.design.specs.Model.{Mark, unset, keeps, DesignState, new_design, no_box, SoundMark, SoundMarks, SoundState, boxed, without}
use Rattle.design.specs.Calls.{mark_held, marks_held, state_of_design, snapshot_of, snapshots_of, design_of, SoundDesign}

-- ---- rows, and then zeros
filled_set : (rows : List ℕ) (i v : ℕ) → i < length rows → set (filled rows) i v ≡ filled (set rows i v)
filled_set rows i v h =
    set-append_left rows (drop (length rows) (replicate 256 0)) i v h
    ∙ ap (λ (k : ℕ). set rows i v ++ drop k (replicate 256 0)) (sym (length-set rows i v))

-- an array that holds its first 2^n rows and nothing else
abbrev pub Only : (n : ℕ) (rows : List ℕ) → Type 0
Only n rows = rows ≡ filled (take (2 ^ n) rows)

pub only_set : (n : ℕ) (rows : List ℕ) (i v : ℕ) → 2 ^ n ≤ length rows → i < 2 ^ n → Only n rows → Only n (set rows i v)
only_set n rows i v room below h =
    ap (λ (l : List ℕ). set l i v) h ∙ filled_set (take (2 ^ n) rows) i v (omega (arith, length-take-le (2 ^ n) rows room, below))
    ∙ ap filled (sym (take-set-lt (2 ^ n) rows i v below))

-- ---- marks
-- what a read past the end would give: a mark that was never set
abbrev pub nowhere : Snapshot
nowhere = record { taken = 0; rows = [] }

pub snapshots_at : (xs : List Mark) (i : ℕ) → i < length xs → get_or (snapshots_of xs) i nowhere ≡ snapshot_of (get_or xs i unset)
unfolding snapshots_of
snapshots_at [] i h = absurd (not-suc-le-zero h)
snapshots_at (x ∷ xs) zero h = refl
snapshots_at (x ∷ xs) (suc i) h = snapshots_at xs i (le_of_suc-le-suc h)

pub snapshots_set : (xs : List Mark) (i : ℕ) (x : Mark) → set (snapshots_of xs) i (snapshot_of x) ≡ snapshots_of (set xs i x)
unfolding snapshots_of
snapshots_set [] i x = refl
snapshots_set (y ∷ xs) zero x = refl
snapshots_set (y ∷ xs) (suc i) x = ap (λ (l : List Snapshot). snapshot_of y ∷ l) (snapshots_set xs i x)

-- ---- each sound state is what its design stands for
module _ (n m : ℕ) where
  mark_held_lem : (x : Mark) → SoundMark n m x → mark_held n (snapshot_of x) ≡ x
  unfolding mark_held
  mark_held_lem unset h = refl
  mark_held_lem (keeps rows) h = ap keeps (filled_rows n rows h.size)

  marks_held_lem : (xs : List Mark) → SoundMarks n m xs → marks_held n (snapshots_of xs) ≡ xs
  unfolding marks_held snapshots_of
  marks_held_lem [] h = refl
  marks_held_lem (x ∷ xs) h =
      ap (λ (y : Mark). y ∷ marks_held n (snapshots_of xs)) (mark_held_lem x h.0) ∙ ap (λ (l : List Mark). x ∷ l) (marks_held_lem xs h.1)

stands_none : state_of_design (design_of no_box) ≡ no_box
unfolding state_of_design design_of no_box new_design list_below list_from snapshots_of marks_held mark_held
stands_none = refl

pub stands_for : (s : DesignState) → SoundState s → state_of_design (design_of s) ≡ s
unfolding state_of_design design_of
stands_for s (boxed t) =
    ap (λ (l : List ℕ). record { n = s.n; m = s.m; rows = l; marks = marks_held s.n (snapshots_of s.marks) }) (filled_rows s.n s.rows t.box.size)
    ∙ ap (λ (l : List Mark). record { n = s.n; m = s.m; rows = s.rows; marks = l }) (marks_held_lem s.n s.m s.marks t.kept)
stands_for s (without e) = ap (λ (r : DesignState). state_of_design (design_of r)) e ∙ stands_none ∙ sym e

pub sound_of : (s : DesignState) → SoundState s → SoundDesign (design_of s)
sound_of s t = let e = stands_for s t in record { sound = rw e t; only = ap design_of (sym e) }

-- ---- and a sound design has nothing beside it
pub holds_only : (d e : Design) → SoundDesign d → SoundDesign e → state_of_design d ≡ state_of_design e → d ≡ e
holds_only d e s t h = s.only ∙ ap design_of h ∙ sym t.only
