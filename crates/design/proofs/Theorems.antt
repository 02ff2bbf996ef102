-- From the calls' contracts to the promises: a design that its own calls made stands for those operations, so what is proved of any operations holds of it.
-- Assumes nothing but those contracts, as `DesignMade` takes them.
use Rattle.std.specs.Prelude.{Result, Ok, Err, ⊤}
use Prim.Native.Nat.{ℕ, ◌≤◌}
use mathlib.Core.Path.{◌≡◌, sym, ap, ◌∙◌}
use mathlib.Core.Logic.{◌↔◌, ⊎_elim}
use mathlib.Core.Bool.{true}
use mathlib.Core.List.{List, [], ◌∷◌, ◌++◌}
use lib.ListN.{length}
use Rattle.refusals.specs.Table.{first, box_checks, Reply, figures, refusal, reply_after}
use Rattle.refusals.specs.declared.Refusal.{Refusal}
use Rattle.refusals.proofs.Checks.{box, box_accepted, found, skip, end, reply_refused, reply_accepted, after_refused, after_accepted}
use Rattle.refusals.proofs.Bounds.{range_true}
use Rattle.refusals.proofs.Replies.{figures_accepted, no_figures}
use Rattle.boolean.specs.Functions.{swapped}
use Rattle.boolean.proofs.Histories.{stands, later_stands}
use Rattle.columns.specs.Addition.{standing_rows}
use Rattle.design.specs.declared.Design.{Design}
use Rattle.design.specs.Model.{keeps, DesignState, new_design, no_box, begin, mark_at, with_rows, swap_checks, mark_checks, return_checks, design_read_checks, swap_inputs, return_to, Boxed}
use Rattle.design.specs.Statements.{Operation, swaps, adds, sets, returns, operation_checks, after_operation, after_operations, leaves, only_swaps, given_by, LastSet, OperationCalled, DesignMade, BegunBy, CalledBy}
use Rattle.design.specs.Calls.{design_rows, state_of_design, design_of, SoundDesign, DesignBegun, Operated, DesignSwapped, DesignAdded, DesignMarked, DesignReturned, DesignRead}
use Rattle.design.proofs.Operations.{boxed_begun, boxed_has, sound_begin, sound_after, none_refuses, none_unread}
use Rattle.design.proofs.Histories.{boxed_run, none_run, mark_keeps, add_outcome, last_or_none, never_set, set_accepted, accepted_return, rows_return, widths_stay, swaps_give}
use Rattle.design.proofs.Whole.{stands_for, sound_of}

-- ---- what a call's contract says of a sound design: one that is sound again, and stands for what the operation makes
pub begun_sound : {n m : ℕ} {rows : List ℕ} {said : Reply} {d : Design} → DesignBegun n m rows said d → SoundDesign d
begun_sound {n} {m} {rows} b = rw b.whole (sound_of (begin n m rows) (sound_begin n m rows))

pub called_is : (o : Operation) {d e : Design} (said : Reply) → OperationCalled o d said e → SoundDesign d → Operated d (operation_checks (state_of_design d) o) (after_operation (state_of_design d) o) said e
unfolding operation_checks after_operation
called_is (swaps x y) said c s = c
called_is (adds j w b) said c s = c.operated s
called_is (sets k) said c s = c
called_is (returns k) said c s = c

pub called_sound : (o : Operation) {d e : Design} (said : Reply) → OperationCalled o d said e → SoundDesign d → SoundDesign e
called_sound o {d} {e} said c s =
    let p = called_is o said c s in
    record { sound = rw p.content (sound_after (state_of_design d) s.sound o); only = p.whole s ∙ ap design_of (sym p.content) }

-- of every design: a refused operation hands it back unchanged
pub refused_unchanged : (o : Operation) {d e : Design} (said : Reply) → OperationCalled o d said e → (k : ℕ) → said ≡ refusal k → e ≡ d
refused_unchanged (swaps x y) said c k h = c.unchanged k h
refused_unchanged (adds j w b) said c k h = c.unchanged k h
refused_unchanged (sets q) said c k h = c.unchanged k h
refused_unchanged (returns q) said c k h = c.unchanged k h

-- and a swap that is done exchanges the two rows
pub done_swap : {d e : Design} (x y : ℕ) {said : Reply} → DesignSwapped d x y said e → said ≡ figures [] → state_of_design e ≡ with_rows (state_of_design d) (swapped (design_rows d) x y)
unfolding swap_inputs state_of_design
done_swap {d} x y c q =
    c.content ∙ sym (after_accepted (figures_accepted (first (swap_checks (state_of_design d) x y)) [] (sym c.reply ∙ q)).0 (with_rows (state_of_design d) (swapped (design_rows d) x y)) (state_of_design d))

-- ---- a design that its own calls made
called_stands : (o : Operation) (d e : Design) → CalledBy o d e → SoundDesign d → SoundDesign e × (state_of_design e ≡ after_operation (state_of_design d) o)
called_stands o d e c s = (called_sound o c.0 c.1 s, (called_is o c.0 c.1 s).content)

module _ {n m : ℕ} {rows : List ℕ} where
  begun_stands : (d : Design) → BegunBy n m rows d → SoundDesign d × (state_of_design d ≡ begin n m rows)
  begun_stands d b = (begun_sound b.1, ap state_of_design b.1.whole ∙ stands_for (begin n m rows) (sound_begin n m rows))

  made_stands : {os : List Operation} {d : Design} → DesignMade n m rows os d → SoundDesign d × (state_of_design d ≡ after_operations (begin n m rows) os)
  unfolding after_operations
  made_stands t = stands after_operation state_of_design SoundDesign begun_stands called_stands t

  pub made_sound : {os : List Operation} {d : Design} → DesignMade n m rows os d → SoundDesign d
  made_sound t = (made_stands t).0

  -- it stands for what those operations make of the box
  pub made_state : {os : List Operation} {d : Design} → DesignMade n m rows os d → state_of_design d ≡ after_operations (begin n m rows) os
  made_state t = (made_stands t).1

  -- and nothing of it is free: every field is settled by the arguments of those calls
  pub made_whole : {os : List Operation} {d : Design} → DesignMade n m rows os d → d ≡ design_of (after_operations (begin n m rows) os)
  made_whole t = (made_sound t).only ∙ ap design_of (made_state t)

  pub made_one : {os : List Operation} {d e : Design} → DesignMade n m rows os d → DesignMade n m rows os e → d ≡ e
  made_one t u = made_whole t ∙ sym (made_whole u)

  -- of a box that is accepted
  module _ (h : first (box_checks n m rows) ≡ (Ok tt)) {os : List Operation} {d : Design} (t : DesignMade n m rows os d) where
    begins_so : begin n m rows ≡ new_design n m rows
    unfolding begin
    begins_so = sym (after_accepted h (new_design n m rows) no_box)

    pub made_begun : state_of_design d ≡ after_operations (new_design n m rows) os
    made_begun = made_state t ∙ ap (λ (s : DesignState). after_operations s os) begins_so

    pub made_boxed : Boxed (state_of_design d)
    made_boxed = rw made_begun (boxed_run (new_design n m rows) (boxed_begun n m rows (box n m rows [] h)) os)

    -- the code's box is accepted
    pub made_accepted : first (box_checks d.n d.m (design_rows d)) ≡ (Ok tt)
    unfolding state_of_design
    made_accepted = box_accepted d.n d.m (design_rows d) made_boxed.box

    -- an addition has the outcome of column addition on its rows
    pub added_stands : (j w b : ℕ) {said : Reply} {r : Design} → DesignAdded d j w b said r
        → design_rows r ≡ standing_rows d.n d.m (design_rows d) (record { column = j; mask = w; constant = b; lent = design_rows d })
    unfolding state_of_design
    added_stands j w b c =
        ap (λ (s : DesignState). s.rows) (c.operated (made_sound t)).content ∙ add_outcome (state_of_design d) made_boxed j w b

    -- setting a mark is accepted, and keeps the box of that moment
    module _ (k : ℕ) (low : 1 ≤ k) (high : k ≤ 16) {said : Reply} {r : Design} where
      pub marked_keeps : DesignMarked d k said r → (said ≡ figures []) × (mark_at (state_of_design r) k ≡ keeps (design_rows d))
      unfolding state_of_design mark_checks
      marked_keeps c = (
        c.reply ∙ sym (reply_accepted (sym (found (skip (boxed_has (state_of_design d) made_boxed) (skip (range_true 1 16 k low high) end)))) []),
        ap (λ (s : DesignState). mark_at s k) c.content ∙ mark_keeps k low high (state_of_design d) made_boxed,
      )

      -- a return to a mark is refused by 17 exactly where none of the operations set it
      module _ (c : DesignReturned d k said r) where
        answered : said ≡ reply_after (first (return_checks (after_operations (new_design n m rows) os) k)) []
        answered = c.reply ∙ ap (λ (s : DesignState). reply_after (first (return_checks s k)) []) made_begun

        pub unset_exactly : (said ≡ refusal 17) ↔ (leaves k os ≡ true)
        unset_exactly =
            let b = box n m rows [] h in (
              λ q. ⊎_elim (λ l. l) (λ p. absurd (no_figures (reply_accepted (set_accepted n m rows b k low high os p) [] ∙ sym answered ∙ q))) (last_or_none k os),
              λ l. answered ∙ sym (reply_refused (never_set n m rows b k low high os l) []),
            )

        -- and one that is done brings back the rows of the moment before the last operation that did
        pub done_return : said ≡ figures [] → (p : LastSet k os) × (state_of_design r ≡ with_rows (state_of_design d) (after_operations (new_design n m rows) p.earlier).rows)
        done_return q =
            let p = accepted_return n m rows (box n m rows [] h) k low high os (figures_accepted _ [] (sym answered ∙ q)).0 in
            let rows_then = (after_operations (new_design n m rows) p.0.earlier).rows in
            (p.0, c.content ∙ ap (λ (s : DesignState). return_to s k) made_begun ∙ p.1 ∙ ap (λ (s : DesignState). with_rows s rows_then) (sym made_begun))

  -- of one that is refused: the design without a box, whatever is called; every operation is refused by 6, and reading by 7
  module _ {e : Refusal} (h : first (box_checks n m rows) ≡ Err e) {os : List Operation} {d : Design} (t : DesignMade n m rows os d) where
    made_none : state_of_design d ≡ no_box
    unfolding begin
    made_none = made_state t ∙ ap (λ (s : DesignState). after_operations s os) (sym (after_refused h (new_design n m rows) no_box)) ∙ none_run os

    pub without_box : d ≡ design_of no_box
    without_box = (made_sound t).only ∙ ap design_of made_none

    pub without_refused : (o : Operation) {r : Design} (said : Reply) → OperationCalled o d said r → (said ≡ refusal 6) × (r ≡ d)
    without_refused o said c =
        let p = called_is o said c (made_sound t) in
        let six = p.reply ∙ ap (λ (s : DesignState). reply_after (first (operation_checks s o)) []) made_none ∙ ap (λ (k : Result ⊤ Refusal). reply_after k []) (none_refuses o) in
        (six, p.unchanged 6 six)

    pub without_unread : {old new : List ℕ} {said : Reply} → DesignRead d old said new → (said ≡ refusal 7) × (new ≡ old)
    without_unread {old} p =
        let found = ap (λ (s : DesignState). first (design_read_checks s (length old))) made_none ∙ none_unread (length old) in
        (p.reply ∙ sym (reply_refused found _), p.content ∙ sym (after_refused found _ _))

-- ---- two moments of one design: d after the earlier operations, r after later ones
module _ {n m : ℕ} {rows : List ℕ} (earlier : List Operation) (d r : Design) (t : DesignMade n m rows earlier d) where
  later_is : (os : List Operation) → DesignMade n m rows (earlier ++ os) r → state_of_design r ≡ after_operations (state_of_design d) os
  unfolding after_operations
  later_is os u = later_stands after_operation state_of_design SoundDesign begun_stands called_stands os t u

  -- right after a return the box is the one of the moment when that mark was last set
  module _ (k : ℕ) (low : 1 ≤ k) (high : k ≤ 16) (later : List Operation) (h : leaves k later ≡ true)
      (u : DesignMade n m rows (earlier ++ ((sets k ∷ later) ++ (returns k ∷ []))) r) where
    pub returned_rows : design_rows r ≡ design_rows d
    unfolding state_of_design
    returned_rows = ap (λ (x : DesignState). x.rows) (later_is _ u) ∙ rows_return k low high (state_of_design d) (made_sound t).sound later h

    pub returned_widths : (r.n ≡ d.n) × (r.m ≡ d.m)
    unfolding state_of_design
    returned_widths =
        let os = (sets k ∷ later) ++ (returns k ∷ []) in
        let w = widths_stay (state_of_design d) os in
        (ap (λ (x : DesignState). x.n) (later_is os u) ∙ w.0, ap (λ (x : DesignState). x.m) (later_is os u) ∙ w.1)

    -- so every figure is
    pub returned_figure : {A : Type 0} (figure : ℕ → ℕ → List ℕ → A) → figure r.n r.m (design_rows r) ≡ figure d.n d.m (design_rows d)
    returned_figure {A} figure =
        ap (λ (l : List ℕ). figure r.n r.m l) returned_rows ∙ ap (λ (i : ℕ). figure i r.m (design_rows d)) returned_widths.0
        ∙ ap (λ (i : ℕ). figure d.n i (design_rows d)) returned_widths.1

  -- between two moments with only swaps each output value is given by as many inputs as before
  pub swapped_given : (os : List Operation) → only_swaps os ≡ true → DesignMade n m rows (earlier ++ os) r → (v : ℕ) → given_by (state_of_design r) v ≡ given_by (state_of_design d) v
  swapped_given os h u v = ap (λ (x : DesignState). given_by x v) (later_is os u) ∙ swaps_give (state_of_design d) (made_sound t).sound os h v
