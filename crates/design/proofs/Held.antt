-- The code's design as the model's: its marks read and replaced, its rows, and what each call's outcome is. Assumes nothing.
use Rattle.std.specs.Prelude.{Result, Ok, Err, ⊤}
use Prim.Native.Nat.{ℕ, zero, suc, ◌-◌, ◌^◌, ◌<◌, ◌≤◌}
use mathlib.Core.Path.{◌≡◌, refl, sym, ap, ◌∙◌}
use mathlib.Core.Bool.{Bool, true, false, true≢false}
use mathlib.Core.List.{List, [], ◌∷◌, ◌++◌}
use native.Mathlib.Omega.{arith}
use lib.Dec.{eqb}
use lib.ListN.{length, get_or, set, take, drop, replicate, length-set, length-take}
use lib.Pow.{pow_mono}
use lib.Seq.{take-set-lt, get_or-take, length-take-le, take-append_seam}
use Rattle.boolean.specs.Sums.{list_below, list_from}
use Rattle.boolean.specs.Functions.{at, swapped}
use Rattle.refusals.specs.Table.{Check, first, box_checks, in_range, figures, refusal, number, reply_after, after, said_written, filled}
use Rattle.refusals.specs.declared.Refusal.{Refusal}
use Rattle.refusals.specs.declared.Refusal.TheVariants.{Parameter}
use Rattle.refusals.proofs.Checks.{reply_refused, reply_accepted, after_accepted, after_refused}
use Rattle.refusals.proofs.Bounds.{range_high}
use Rattle.refusals.proofs.Outcomes.{refusal_leaves}
use Rattle.refusals.proofs.Replies.{no_figures, figures_accepted}
use Rattle.columns.specs.Addition.{added_rows, addition_checks}
use Rattle.columns.proofs.Additions.{length_added}
use Rattle.design.specs.declared.Snapshot.{Snapshot}
use Rattle.design.specs.declared.Design.{Design}
use Rattle.design.specs.declared.Tuned.{Tuned}
use Rattle.design.specs.Model.{Mark, unset, keeps, DesignState, new_design, no_box, begin, mark_at, is_set, rows_kept, with_rows, with_mark, swap_checks, design_add_checks, mark_checks, return_checks, swap_inputs, add, set_mark, return_to, Boxed, SoundState, boxed, without}
use Rattle.design.specs.Calls.{mark_of, mark_held, marks_held, design_rows, state_of_design, snapshot_of, snapshots_of, design_of, SoundDesign, Operated, DesignSwapped, DesignAdded, DesignMarked, DesignReturned}
use Rattle.design.proofs.Operations.{same_checks, swap_in}
use Rattle.design.proofs.Whole.{Only, only_set, nowhere, snapshots_at, snapshots_set}

-- ---- marks
marks_at : (n : ℕ) (ps : List Snapshot) (i : ℕ) → get_or (marks_held n ps) i unset ≡ mark_held n (get_or ps i nowhere)
unfolding marks_held mark_held
marks_at n [] i = refl
marks_at n (p ∷ ps) zero = refl
marks_at n (p ∷ ps) (suc i) = marks_at n ps i

marks_set : (n : ℕ) (ps : List Snapshot) (i : ℕ) (p : Snapshot) → marks_held n (set ps i p) ≡ set (marks_held n ps) i (mark_held n p)
unfolding marks_held
marks_set n [] i p = refl
marks_set n (q ∷ ps) zero p = refl
marks_set n (q ∷ ps) (suc i) p = ap (λ (l : List Mark). mark_held n q ∷ l) (marks_set n ps i p)

set_of : (b : Bool) (rows : List ℕ) → is_set (mark_of b rows) ≡ b
set_of true rows = refl
set_of false rows = refl

-- ---- what a sound design holds, field by field
module _ (d : Design) (s : SoundDesign d) where
  only_rows : Only d.n d.rows
  unfolding state_of_design design_of
  only_rows = ap (λ (r : Design). r.rows) s.only

  only_marks : d.marks ≡ snapshots_of (marks_held d.n d.marks)
  unfolding state_of_design design_of
  only_marks = ap (λ (r : Design). r.marks) s.only

-- and a design whose fields hold nothing else
module _ (d : Design) (rows : Only d.n d.rows) (marks : d.marks ≡ snapshots_of (marks_held d.n d.marks)) where
  holds_state : d ≡ design_of (state_of_design d)
  unfolding state_of_design design_of
  holds_state =
      ap (λ (l : List ℕ). record { n = d.n; m = d.m; rows = l; marks = d.marks }) rows
      ∙ ap (λ (l : List Snapshot). record { n = d.n; m = d.m; rows = filled (design_rows d); marks = l }) marks

-- ---- the outcome of an operation, where it is refused and where it is done
module _ (d : Design) (checks : List Check) (new : DesignState) where
  pub refused_so : {e : Refusal} → refusal (number e) ≡ reply_after (first checks) [] → {r : Tuned} → (r.design ≡ d) × (r.answer ≡ Err e)
      → Operated d checks (after (first checks) new (state_of_design d)) (said_written r.answer) r.design
  refused_so {e} h g =
      let left = refusal_leaves (first checks) [] new (state_of_design d) h in
      record {
        unchanged = λ k q. g.0;
        reply = ap said_written g.1 ∙ h;
        content = ap state_of_design g.0 ∙ left;
        whole = λ s. g.0 ∙ s.only ∙ ap design_of left;
      }

  done_so : (r : Design) → first checks ≡ (Ok tt) → state_of_design r ≡ new → (SoundDesign d → r ≡ design_of (state_of_design r))
      → Operated d checks (after (first checks) new (state_of_design d)) (figures []) r
  done_so r h e only =
      let is = e ∙ after_accepted h new (state_of_design d) in
      record { unchanged = λ k q. absurd (no_figures q); reply = reply_accepted h []; content = is; whole = λ s. only s ∙ ap design_of is }

-- ---- begin
abbrev sixteen : {A : Type 0} → A → List A
sixteen x = x ∷ x ∷ x ∷ x ∷ x ∷ x ∷ x ∷ x ∷ x ∷ x ∷ x ∷ x ∷ x ∷ x ∷ x ∷ x ∷ []

fresh_is : (n m : ℕ) (rows held : List ℕ) (v : Snapshot) → v ≡ snapshot_of unset → held ≡ filled rows
    → record { n = n; m = m; rows = held; marks = sixteen v } ≡ design_of (new_design n m rows)
unfolding design_of snapshots_of new_design list_below list_from
fresh_is n m rows held v e h =
    ap (λ (l : List ℕ). record { n = n; m = m; rows = l; marks = sixteen v }) h
    ∙ ap (λ (x : Snapshot). record { n = n; m = m; rows = filled rows; marks = sixteen x }) e

module _ (n m : ℕ) (rows : List ℕ) (v : Snapshot) (e : v ≡ snapshot_of unset) where
  -- a box that is refused: the design has none
  pub begin_refused : {f : Refusal} → first (box_checks n m rows) ≡ Err f
      → record { n = 0; m = 0; rows = replicate 256 0; marks = sixteen v } ≡ design_of (begin n m rows)
  unfolding begin no_box
  begin_refused h = fresh_is 0 0 (0 ∷ []) (replicate 256 0) v e refl ∙ ap design_of (after_refused h (new_design n m rows) no_box)

  -- an accepted one, its rows copied to the start of the array
  pub begin_done : first (box_checks n m rows) ≡ (Ok tt) → {copied : List ℕ} → copied ≡ rows
      → record { n = n; m = m; rows = copied ++ drop (length rows) (replicate 256 0); marks = sixteen v } ≡ design_of (begin n m rows)
  unfolding begin
  begin_done h {copied} c =
      fresh_is n m rows (copied ++ drop (length rows) (replicate 256 0)) v e (ap (λ (l : List ℕ). l ++ drop (length rows) (replicate 256 0)) c)
      ∙ ap design_of (after_accepted h (new_design n m rows) no_box)

-- ---- what the first check leaves known: there is a box in it
module _ (d : Design) (b : in_range 1 8 d.n ≡ true) (s : SoundDesign d) where
  box_inside : Boxed (state_of_design d)
  unfolding state_of_design no_box new_design
  box_inside = by_state s.sound
    where
      by_state : SoundState (state_of_design d) → Boxed (state_of_design d)
      by_state (boxed t) = t
      by_state (without e) = absurd (true≢false (sym b ∙ ap (λ (r : DesignState). in_range 1 8 r.n) e))

  box_room : 2 ^ d.n ≤ length d.rows
  unfolding state_of_design
  box_room = omega (arith, box_inside.box.size, length-take (2 ^ d.n) d.rows)

-- ---- swap
module _ (d : Design) (x y : ℕ) where
  pub swap_refused : {e : Refusal} → first (swap_checks (state_of_design d) x y) ≡ Err e → {r : Tuned} → (r.design ≡ d) × (r.answer ≡ Err e)
      → DesignSwapped d x y (said_written r.answer) r.design
  unfolding swap_inputs
  swap_refused h g = refused_so d (swap_checks (state_of_design d) x y) (with_rows (state_of_design d) (swapped (state_of_design d).rows x y)) (reply_refused h []) g

  module _ (b : in_range 1 8 d.n ≡ true) (lx : x < 2 ^ d.n) (ly : y < 2 ^ d.n) where
    abbrev exchanged : Design
    exchanged = record { n = d.n; m = d.m; rows = set (set d.rows x (at d.rows y)) y (at d.rows x); marks = d.marks }

    exchanged_rows : take (2 ^ d.n) exchanged.rows ≡ swapped (design_rows d) x y
    unfolding swapped
    exchanged_rows =
        take-set-lt (2 ^ d.n) (set d.rows x (at d.rows y)) y (at d.rows x) ly
        ∙ ap (λ (l : List ℕ). set l y (at d.rows x)) (take-set-lt (2 ^ d.n) d.rows x (at d.rows y) lx)
        ∙ ap (λ (v : ℕ). set (set (design_rows d) x v) y (at d.rows x)) (sym (get_or-take (2 ^ d.n) d.rows y 0 ly))
        ∙ ap (λ (v : ℕ). set (set (design_rows d) x (at (design_rows d) y)) y v) (sym (get_or-take (2 ^ d.n) d.rows x 0 lx))

    exchanged_only : SoundDesign d → exchanged ≡ design_of (state_of_design exchanged)
    exchanged_only s =
        let room = box_room d b s in
        let once = only_set d.n d.rows x (at d.rows y) room lx (only_rows d s) in
        let same = length-set d.rows x (at d.rows y) in
        holds_state exchanged (only_set d.n (set d.rows x (at d.rows y)) y (at d.rows x) (omega (arith, room, same)) ly once) (only_marks d s)

    pub swap_done : DesignSwapped d x y (figures []) exchanged
    unfolding swap_inputs state_of_design
    swap_done =
        done_so d (swap_checks (state_of_design d) x y) (with_rows (state_of_design d) (swapped (state_of_design d).rows x y)) exchanged (swap_in (state_of_design d) x y b lx ly)
        (ap (λ (l : List ℕ). record { n = d.n; m = d.m; rows = l; marks = marks_held d.n d.marks }) exchanged_rows) exchanged_only

-- ---- mark
module _ (d : Design) (k : ℕ) where
  pub mark_refused : {e : Refusal} → first (mark_checks (state_of_design d) k) ≡ Err e → {r : Tuned} → (r.design ≡ d) × (r.answer ≡ Err e)
      → DesignMarked d k (said_written r.answer) r.design
  unfolding set_mark
  mark_refused h g = refused_so d (mark_checks (state_of_design d) k) (with_mark (state_of_design d) k (keeps (state_of_design d).rows)) (reply_refused h []) g

  abbrev taken_now : Snapshot
  taken_now = record { taken = 1; rows = d.rows }

  abbrev marked : Design
  marked = record { n = d.n; m = d.m; rows = d.rows; marks = set d.marks (k - 1) taken_now }

  marked_only : SoundDesign d → marked ≡ design_of (state_of_design marked)
  unfolding mark_held
  marked_only s =
      holds_state marked (only_rows d s)
      (ap (λ (l : List Snapshot). set l (k - 1) taken_now) (only_marks d s)
      ∙ ap (λ (l : List ℕ). set (snapshots_of (marks_held d.n d.marks)) (k - 1) (record { taken = 1; rows = l })) (only_rows d s)
      ∙ snapshots_set (marks_held d.n d.marks) (k - 1) (keeps (design_rows d)) ∙ ap snapshots_of (sym (marks_set d.n d.marks (k - 1) taken_now)))

  pub mark_done : first (mark_checks (state_of_design d) k) ≡ (Ok tt) → DesignMarked d k (figures []) marked
  unfolding set_mark state_of_design mark_held
  mark_done h =
      done_so d (mark_checks (state_of_design d) k) (with_mark (state_of_design d) k (keeps (state_of_design d).rows)) marked h
      (ap (λ (l : List Mark). record { n = d.n; m = d.m; rows = design_rows d; marks = l }) (marks_set d.n d.marks (k - 1) taken_now)) marked_only

-- ---- return
module _ (d : Design) (k : ℕ) where
  abbrev here : Snapshot
  here = get_or d.marks (k - 1) nowhere

  pub set_at : eqb here.taken 1 ≡ is_set (mark_at (state_of_design d) k)
  unfolding state_of_design mark_held
  set_at = sym (set_of (eqb here.taken 1) (take (2 ^ d.n) here.rows)) ∙ ap is_set (sym (marks_at d.n d.marks (k - 1)))

  pub return_refused : {e : Refusal} → first (return_checks (state_of_design d) k) ≡ Err e → {r : Tuned} → (r.design ≡ d) × (r.answer ≡ Err e)
      → DesignReturned d k (said_written r.answer) r.design
  unfolding return_to
  return_refused h g = refused_so d (return_checks (state_of_design d) k) (with_rows (state_of_design d) (rows_kept (mark_at (state_of_design d) k) (state_of_design d).rows)) (reply_refused h []) g

  abbrev restored : Design
  restored = record { n = d.n; m = d.m; rows = here.rows; marks = d.marks }

  module _ (b : in_range 1 8 d.n ≡ true) (low : 1 ≤ k) (high : k ≤ 16) (e : eqb here.taken 1 ≡ true) where
    restored_rows : take (2 ^ d.n) here.rows ≡ rows_kept (mark_at (state_of_design d) k) (state_of_design d).rows
    unfolding state_of_design mark_held
    restored_rows =
        sym (ap (λ (t : Bool). rows_kept (mark_of t (take (2 ^ d.n) here.rows)) (design_rows d)) e)
        ∙ ap (λ (x : Mark). rows_kept x (design_rows d)) (sym (marks_at d.n d.marks (k - 1)))

    here_only : SoundDesign d → Only d.n here.rows
    unfolding state_of_design mark_held
    here_only s =
        let inside : k - 1 < length (marks_held d.n d.marks) = omega (arith, (box_inside d b s).sixteen) in
        ap (λ (l : List Snapshot). (get_or l (k - 1) nowhere).rows) (only_marks d s)
        ∙ ap (λ (p : Snapshot). p.rows) (snapshots_at (marks_held d.n d.marks) (k - 1) inside)
        ∙ ap (λ (x : Mark). (snapshot_of x).rows) (marks_at d.n d.marks (k - 1))
        ∙ ap (λ (t : Bool). (snapshot_of (mark_of t (take (2 ^ d.n) here.rows))).rows) e

    pub return_done : first (return_checks (state_of_design d) k) ≡ (Ok tt) → DesignReturned d k (figures []) restored
    unfolding return_to state_of_design
    return_done h =
        done_so d (return_checks (state_of_design d) k) (with_rows (state_of_design d) (rows_kept (mark_at (state_of_design d) k) (state_of_design d).rows)) restored h
        (ap (λ (l : List ℕ). record { n = d.n; m = d.m; rows = l; marks = marks_held d.n d.marks }) restored_rows)
        (λ s. holds_state restored (here_only s) (only_marks d s))

-- ---- add: on a sound design the checks of column addition are those of the model
pub add_refused : (d : Design) (j w b : ℕ) → first (design_add_checks (state_of_design d) j w b) ≡ Err Parameter → {r : Tuned} → (r.design ≡ d) × (r.answer ≡ Err Parameter)
    → DesignAdded d j w b (said_written r.answer) r.design
unfolding add
add_refused d j w b h g = record {
  unchanged = λ k q. g.0;
  operated = λ s. refused_so d (design_add_checks (state_of_design d) j w b) (with_rows (state_of_design d) (added_rows j w b (state_of_design d).rows)) (reply_refused h []) g;
}

module _ (d : Design) (j w b size room : ℕ) (t : in_range 1 8 d.n ≡ true) (e : size ≡ 2 ^ d.n) (f : room ≡ size) where
  abbrev found_by_addition : Result ⊤ Refusal
  found_by_addition = first (addition_checks d.n d.m (take size d.rows) j w b room)

  add_checks_lem : SoundDesign d → found_by_addition ≡ first (design_add_checks (state_of_design d) j w b)
  unfolding state_of_design
  add_checks_lem s =
      ap (λ (k : ℕ). first (addition_checks d.n d.m (take k d.rows) j w b room)) e ∙ same_checks (state_of_design d) (box_inside d t s) j w b room (f ∙ e)

  pub add_declined : {x : Refusal} → refusal (number x) ≡ reply_after found_by_addition [] → {r : Tuned} → (r.design ≡ d) × (r.answer ≡ Err x)
      → DesignAdded d j w b (said_written r.answer) r.design
  unfolding add
  add_declined h g = record {
    unchanged = λ k q. g.0;
    operated = λ s.
        refused_so d (design_add_checks (state_of_design d) j w b) (with_rows (state_of_design d) (added_rows j w b (state_of_design d).rows)) (h ∙ ap (λ (k : Result ⊤ Refusal). reply_after k []) (add_checks_lem s)) g;
  }

  module _ (h : figures [] ≡ reply_after found_by_addition []) (out old : List ℕ)
      (c : out ≡ after found_by_addition (added_rows j w b (take size d.rows)) old) where
    abbrev added : Design
    added = record { n = d.n; m = d.m; rows = out ++ drop size (replicate 256 0); marks = d.marks }

    out_is : out ≡ added_rows j w b (design_rows d)
    out_is =
        c ∙ ap (λ (k : Result ⊤ Refusal). after k (added_rows j w b (take size d.rows)) old) (figures_accepted found_by_addition [] (sym h)).0
        ∙ ap (λ (k : ℕ). added_rows j w b (take k d.rows)) e

    module _ (s : SoundDesign d) where
      out_long : 2 ^ d.n ≡ length out
      out_long =
          sym (length-take-le (2 ^ d.n) d.rows (box_room d t s)) ∙ sym (length_added j w b (design_rows d)) ∙ ap length (sym out_is)

      out_first : take (2 ^ d.n) added.rows ≡ out
      out_first = ap (λ (k : ℕ). take k added.rows) out_long ∙ take-append_seam out (drop size (replicate 256 0))

      added_only : added ≡ design_of (state_of_design added)
      added_only =
          holds_state added (ap (λ (k : ℕ). out ++ drop k (replicate 256 0)) (e ∙ out_long) ∙ ap filled (sym out_first)) (only_marks d s)

      add_operated : Operated d (design_add_checks (state_of_design d) j w b) (add (state_of_design d) j w b) (figures []) added
      unfolding add state_of_design
      add_operated =
          done_so d (design_add_checks (state_of_design d) j w b) (with_rows (state_of_design d) (added_rows j w b (state_of_design d).rows)) added
          (sym (add_checks_lem s) ∙ (figures_accepted found_by_addition [] (sym h)).0)
          (ap (λ (l : List ℕ). record { n = d.n; m = d.m; rows = l; marks = marks_held d.n d.marks }) (out_first ∙ out_is)) (λ u. added_only)

    pub add_done : DesignAdded d j w b (figures []) added
    add_done = record { unchanged = λ k q. absurd (no_figures q); operated = add_operated }

-- ---- numbers that the code tests
pub inside : (n x : ℕ) {size : ℕ} → in_range 1 8 n ≡ true → size ≡ 2 ^ n → x < size → x < 256
inside n x {size} b e l = let p : 2 ^ n ≤ 2 ^ 8 = pow_mono (range_high 1 8 n b) in omega (arith, p, e, l)

pub few : (n : ℕ) {size : ℕ} → in_range 1 8 n ≡ true → size ≡ 2 ^ n → size ≤ 256
few n {size} b e = let p : 2 ^ n ≤ 2 ^ 8 = pow_mono (range_high 1 8 n b) in omega (arith, p, e)
