-- Any operations, one after the other: the box stays accepted, a return brings back the box of the moment when its mark was last set,
-- all marks remain, and swaps alone leave each output value as many inputs as before. Assumes nothing.
use Rattle.std.specs.Prelude.{Result, Ok, Err, ⊤}
use Rattle.refusals.specs.declared.Refusal.{Refusal}
use Prim.Native.Nat.{ℕ, zero, suc, ◌-◌, ◌^◌, ◌<◌, ◌≤◌}
use mathlib.Core.Path.{◌≡◌, refl, sym, ap, ◌∙◌}
use mathlib.Core.Bool.{Bool, true, false}
use mathlib.Core.Logic.{◌⊎◌, inl, inr, ⊎_elim}
use mathlib.Core.List.{List, [], ◌∷◌, ◌++◌, foldl-append}
use native.Mathlib.Decide.{ℕ_discrete}
use native.Mathlib.Omega.{arith}
use borrow.Author.Tests.{ltb-true, eqb-true, eqb-false}
use lib.Dec.{eqb}
use lib.ListN.{length, get_or}
use lib.Seq.{get_or-set_same, get_or-set_other, ext_get_or}
use Rattle.boolean.specs.Sums.{list_below, list_from}
use Rattle.boolean.specs.Functions.{at, swapped}
use Rattle.refusals.specs.Table.{first, in_range, Box, box_checks, after}
use Rattle.refusals.specs.declared.Refusal.TheVariants.{Parameter, UnsetMark}
use Rattle.refusals.proofs.Checks.{passed, found, skip, stop, end, box_accepted, after_cases, after_both, not_both}
use Rattle.refusals.proofs.Bounds.{range_low, range_true}
use Rattle.design.specs.Model.{Mark, unset, keeps, DesignState, new_design, no_box, mark_at, is_set, rows_kept, with_rows, with_mark, swap_checks, design_add_checks, mark_checks, return_checks, swap_inputs, add, set_mark, return_to, Boxed, SoundState, boxed, without}
use Rattle.design.specs.Statements.{Operation, swaps, adds, sets, returns, after_operation, after_operations, leaves, only_swaps, given_by, LastSet}
use Rattle.columns.specs.Addition.{added_rows, addition_checked, standing_rows}
use Rattle.boolean.proofs.Swapped.{length_swapped, swapped_first, swapped_second, swapped_other}
use Rattle.boolean.proofs.Histories.{run_keeps}
use Rattle.design.proofs.Rows.{times_swapped}
use Rattle.design.proofs.Operations.{same_checks, boxed_begun, boxed_has, boxed_after, none_after, sound_after}

-- ---- the box stays accepted throughout; without one there is none afterwards
pub boxed_run : (s : DesignState) → Boxed s → (os : List Operation) → Boxed (after_operations s os)
unfolding after_operations
boxed_run s t os = run_keeps after_operation Boxed boxed_after s t os

pub box_stays : (s : DesignState) → Boxed s → (os : List Operation) → first (box_checks (after_operations s os).n (after_operations s os).m (after_operations s os).rows) ≡ (Ok tt)
box_stays s t os = box_accepted (after_operations s os).n (after_operations s os).m (after_operations s os).rows (boxed_run s t os).box

pub none_run : (os : List Operation) → after_operations no_box os ≡ no_box
unfolding after_operations
none_run os = run_keeps after_operation (λ s. s ≡ no_box) (λ s e o. ap (λ (r : DesignState). after_operation r o) e ∙ none_after o) no_box refl os

-- ---- the widths stay
widths_after : (s : DesignState) (o : Operation) → ((after_operation s o).n ≡ s.n) × ((after_operation s o).m ≡ s.m)
unfolding after_operation swap_inputs add set_mark return_to
widths_after s (swaps x y) = after_cases (first (swap_checks s x y)) (with_rows s (swapped s.rows x y)) s (λ r. (r.n ≡ s.n) × (r.m ≡ s.m)) (λ h. (refl, refl)) (refl, refl)
widths_after s (adds j w b) = after_cases (first (design_add_checks s j w b)) (with_rows s (added_rows j w b s.rows)) s (λ r. (r.n ≡ s.n) × (r.m ≡ s.m)) (λ h. (refl, refl)) (refl, refl)
widths_after s (sets k) = after_cases (first (mark_checks s k)) (with_mark s k (keeps s.rows)) s (λ r. (r.n ≡ s.n) × (r.m ≡ s.m)) (λ h. (refl, refl)) (refl, refl)
widths_after s (returns k) = after_cases (first (return_checks s k)) (with_rows s (rows_kept (mark_at s k) s.rows)) s (λ r. (r.n ≡ s.n) × (r.m ≡ s.m)) (λ h. (refl, refl)) (refl, refl)

pub widths_stay : (s : DesignState) (os : List Operation) → ((after_operations s os).n ≡ s.n) × ((after_operations s os).m ≡ s.m)
unfolding after_operations
widths_stay s os =
    run_keeps after_operation (λ r. (r.n ≡ s.n) × (r.m ≡ s.m)) (λ r e o. ((widths_after r o).0 ∙ e.0, (widths_after r o).1 ∙ e.1)) s (refl, refl) os

-- ---- all marks remain, in a swap, an addition and a return
pub marks_remain_swap : (s : DesignState) (x y : ℕ) → (swap_inputs s x y).marks ≡ s.marks
unfolding swap_inputs
marks_remain_swap s x y = after_cases (first (swap_checks s x y)) (with_rows s (swapped s.rows x y)) s (λ r. r.marks ≡ s.marks) (λ h. refl) refl

pub marks_remain_add : (s : DesignState) (j w b : ℕ) → (add s j w b).marks ≡ s.marks
unfolding add
marks_remain_add s j w b = after_cases (first (design_add_checks s j w b)) (with_rows s (added_rows j w b s.rows)) s (λ r. r.marks ≡ s.marks) (λ h. refl) refl

pub marks_remain_return : (s : DesignState) (k : ℕ) → (return_to s k).marks ≡ s.marks
unfolding return_to
marks_remain_return s k = after_cases (first (return_checks s k)) (with_rows s (rows_kept (mark_at s k) s.rows)) s (λ r. r.marks ≡ s.marks) (λ h. refl) refl

-- a mark that another one's setting leaves alone
other_mark : (s : DesignState) (q k : ℕ) → 1 ≤ k → (q ≡ k → ⊥) → mark_at (set_mark s q) k ≡ mark_at s k
unfolding set_mark mark_checks
other_mark s q k low ne =
    after_cases (first (mark_checks s q)) (with_mark s q (keeps s.rows)) s (λ r. mark_at r k ≡ mark_at s k)
    (λ h. let p = range_low 1 16 q (passed (mark_checks s q) h).1.0 in get_or-set_other s.marks (q - 1) (k - 1) (keeps s.rows) unset (λ e. ne (omega (arith, e, p, low)))) refl

module _ (k : ℕ) (low : 1 ≤ k) where
  -- operations that do not set mark k leave it
  pub mark_stays : (s : DesignState) (os : List Operation) → leaves k os ≡ true → mark_at (after_operations s os) k ≡ mark_at s k
  unfolding after_operations after_operation leaves
  mark_stays s [] h = refl
  mark_stays s (swaps x y ∷ os) h = mark_stays (swap_inputs s x y) os h ∙ ap (λ (l : List Mark). get_or l (k - 1) unset) (marks_remain_swap s x y)
  mark_stays s (adds j w b ∷ os) h = mark_stays (add s j w b) os h ∙ ap (λ (l : List Mark). get_or l (k - 1) unset) (marks_remain_add s j w b)
  mark_stays s (returns q ∷ os) h = mark_stays (return_to s q) os h ∙ ap (λ (l : List Mark). get_or l (k - 1) unset) (marks_remain_return s q)
  mark_stays s (sets q ∷ os) h = pick (eqb q k) refl h (λ g. mark_stays (set_mark s q) os g)
    where
      pick : (b : Bool) → eqb q k ≡ b → elim b [ true ↦ false | false ↦ leaves k os ] ≡ true
          → (leaves k os ≡ true → mark_at (after_operations (set_mark s q) os) k ≡ mark_at (set_mark s q) k) → mark_at (after_operations (set_mark s q) os) k ≡ mark_at s k
      pick true e g r = cc
      pick false e g r = r g ∙ other_mark s q k low (eqb-false q k e)

  module _ (high : k ≤ 16) where
    -- setting keeps the box of the moment, whatever the mark had before
    pub mark_keeps : (s : DesignState) → Boxed s → mark_at (set_mark s k) k ≡ keeps s.rows
    unfolding set_mark mark_checks
    mark_keeps s t =
        ap (λ (c : Result ⊤ Refusal). mark_at (after c (with_mark s k (keeps s.rows)) s) k)
        (sym (found (skip (boxed_has s t) (skip (range_true 1 16 k low high) end))))
        ∙ get_or-set_same s.marks (k - 1) (keeps s.rows) unset (omega (arith, t.sixteen, low, high))

    -- returning to a mark that has rows is accepted, and brings them back
    pub held_accepted : (s : DesignState) → Boxed s → (rows : List ℕ) → mark_at s k ≡ keeps rows → first (return_checks s k) ≡ (Ok tt)
    unfolding return_checks
    held_accepted s t rows e = sym (found (skip (boxed_has s t) (skip (range_true 1 16 k low high) (skip (ap is_set e) end))))

    pub held_returns : (s : DesignState) → Boxed s → (rows : List ℕ) → mark_at s k ≡ keeps rows → return_to s k ≡ with_rows s rows
    unfolding return_to
    held_returns s t rows e =
        ap (λ (c : Result ⊤ Refusal). after c (with_rows s (rows_kept (mark_at s k) s.rows)) s) (held_accepted s t rows e)
        ∙ ap (λ (x : Mark). with_rows s (rows_kept x s.rows)) e

    -- ---- right after a return the box is the one of the moment when the mark was last set
    module _ (s : DesignState) (t : Boxed s) (later : List Operation) (h : leaves k later ≡ true) where
      abbrev marked : DesignState
      marked = after_operations s (sets k ∷ later)

      abbrev history : List Operation
      history = (sets k ∷ later) ++ (returns k ∷ [])

      held : mark_at marked k ≡ keeps s.rows
      unfolding after_operations after_operation
      held = mark_stays (set_mark s k) later h ∙ mark_keeps s t

      pub return_accepted : first (return_checks marked k) ≡ (Ok tt)
      return_accepted = held_accepted marked (boxed_run s t (sets k ∷ later)) s.rows held

      returned : after_operations s history ≡ with_rows marked s.rows
      unfolding after_operations after_operation
      returned =
          foldl-append after_operation s (sets k ∷ later) (returns k ∷ []) ∙ held_returns marked (boxed_run s t (sets k ∷ later)) s.rows held

      -- and all marks remain, that one too
      pub marks_return : (after_operations s history).marks ≡ marked.marks
      marks_return = ap (λ (r : DesignState). r.marks) returned

    -- so the rows are those of that moment; without a box there is nothing that changes
    pub rows_return : (s : DesignState) → SoundState s → (later : List Operation) → leaves k later ≡ true → (after_operations s ((sets k ∷ later) ++ (returns k ∷ []))).rows ≡ s.rows
    rows_return s (boxed t) later h = ap (λ (r : DesignState). r.rows) (returned s t later h)
    rows_return s (without e) later h =
        let os = (sets k ∷ later) ++ (returns k ∷ []) in
        ap (λ (r : DesignState). r.rows) (ap (λ (r : DesignState). after_operations r os) e ∙ none_run os ∙ sym e)

-- ---- only swaps: each output value is given by as many inputs as before
swap_gives : (s : DesignState) → SoundState s → (x y v : ℕ) → given_by (swap_inputs s x y) v ≡ given_by s v
unfolding swap_inputs given_by swap_checks after_operation
swap_gives s (boxed t) x y v =
    after_cases (first (swap_checks s x y)) (with_rows s (swapped s.rows x y)) s (λ r. given_by r v ≡ given_by s v)
    (λ h.
    let p = (passed (swap_checks s x y) h).1 in
    times_swapped v x y s.rows (2 ^ s.n) t.box.size (ltb-true x (2 ^ s.n) p.0) (ltb-true y (2 ^ s.n) p.1.0)) refl
swap_gives s (without e) x y v = ap (λ (r : DesignState). given_by r v) (ap (λ (r : DesignState). after_operation r (swaps x y)) e ∙ none_after (swaps x y) ∙ sym e)

-- setting a mark leaves the box
mark_gives : (s : DesignState) (k v : ℕ) → given_by (set_mark s k) v ≡ given_by s v
unfolding set_mark given_by
mark_gives s k v = after_cases (first (mark_checks s k)) (with_mark s k (keeps s.rows)) s (λ r. given_by r v ≡ given_by s v) (λ h. refl) refl

pub swaps_give : (s : DesignState) → SoundState s → (os : List Operation) → only_swaps os ≡ true → (v : ℕ) → given_by (after_operations s os) v ≡ given_by s v
unfolding after_operations after_operation only_swaps
swaps_give s t [] h v = refl
swaps_give s t (swaps x y ∷ os) h v = swaps_give (swap_inputs s x y) (sound_after s t (swaps x y)) os h v ∙ swap_gives s t x y v
swaps_give s t (adds j w b ∷ os) h v = cc
swaps_give s t (sets k ∷ os) h v = swaps_give (set_mark s k) (sound_after s t (sets k)) os h v ∙ mark_gives s k v
swaps_give s t (returns k ∷ os) h v = cc

-- ---- a swap of an input with itself, or of two equal rows, is accepted and changes nothing
pub same_rows : (x y : ℕ) (rows : List ℕ) → x < length rows → y < length rows → at rows x ≡ at rows y → swapped rows x y ≡ rows
same_rows x y rows lx ly e = ext_get_or 0 (swapped rows x y) rows (length_swapped x y rows) (λ k l. pick k (ℕ_discrete k x) (ℕ_discrete k y))
  where
    pick : (k : ℕ) → Dec (k ≡ x) → Dec (k ≡ y) → at (swapped rows x y) k ≡ at rows k
    pick k (yes p) d = ap (at (swapped rows x y)) p ∙ swapped_first x y rows lx ∙ sym e ∙ ap (at rows) (sym p)
    pick k (no p) (yes q) = ap (at (swapped rows x y)) q ∙ swapped_second x y rows ly ∙ e ∙ ap (at rows) (sym q)
    pick k (no p) (no q) = swapped_other x y rows k p q

-- ---- add has the outcome of column addition
pub add_outcome : (s : DesignState) → Boxed s → (j w b : ℕ)
    → (add s j w b).rows ≡ standing_rows s.n s.m s.rows (record { column = j; mask = w; constant = b; lent = s.rows })
unfolding add standing_rows addition_checked
add_outcome s t j w b =
    after_both (first (design_add_checks s j w b)) (λ r rows. r.rows ≡ rows) (with_rows s (added_rows j w b s.rows)) s _ s.rows (λ h. refl) refl
    ∙ ap (λ (k : Result ⊤ Refusal). after k (added_rows j w b s.rows) s.rows) (sym (same_checks s t j w b (length s.rows) t.box.size))

-- ---- 6 comes before 17
pub six_first : (s : DesignState) (k : ℕ) → in_range 1 16 k ≡ false → first (return_checks s k) ≡ Err Parameter
unfolding return_checks first
six_first s k h = either (in_range 1 8 s.n) refl
  where
    either : (b : Bool) → in_range 1 8 s.n ≡ b → first (return_checks s k) ≡ Err Parameter
    either true e = sym (found {cs = return_checks s k} (skip e (stop h)))
    either false e = sym (found {cs = return_checks s k} (stop e))

-- ---- when a mark was last set
longer : {k : ℕ} {os : List Operation} (o : Operation) → LastSet k os → LastSet k (o ∷ os)
longer o p = record { earlier = o ∷ p.earlier; later = p.later; splits = ap (λ (l : List Operation). o ∷ l) p.splits; left = p.left }

-- any operations leave the mark alone, or there is a last one that sets it
pub last_or_none : (k : ℕ) (os : List Operation) → (leaves k os ≡ true) ⊎ LastSet k os
unfolding leaves
last_or_none k [] = inl refl
last_or_none k (swaps x y ∷ os) = ⊎_elim (λ h. inl h) (λ p. inr (longer (swaps x y) p)) (last_or_none k os)
last_or_none k (adds j w b ∷ os) = ⊎_elim (λ h. inl h) (λ p. inr (longer (adds j w b) p)) (last_or_none k os)
last_or_none k (returns q ∷ os) = ⊎_elim (λ h. inl h) (λ p. inr (longer (returns q) p)) (last_or_none k os)
last_or_none k (sets q ∷ os) = ⊎_elim (λ h. pick h (eqb q k) refl) (λ p. inr (longer (sets q) p)) (last_or_none k os)
  where
    pick : leaves k os ≡ true → (b : Bool) → eqb q k ≡ b → (elim b [ true ↦ false | false ↦ leaves k os ] ≡ true) ⊎ LastSet k (sets q ∷ os)
    pick h true e = inr (record { earlier = []; later = os; splits = ap (λ (z : ℕ). sets z ∷ os) (eqb-true q k e); left = h })
    pick h false e = inl h

none_set : (i c j : ℕ) → get_or (list_from i c (λ z. unset)) j unset ≡ unset
unfolding list_from
none_set i zero j = refl
none_set i (suc c) zero = refl
none_set i (suc c) (suc j) = none_set (suc i) c j

pub begins_unset : (n m : ℕ) (rows : List ℕ) (k : ℕ) → mark_at (new_design n m rows) k ≡ unset
unfolding new_design list_below
begins_unset n m rows k = none_set 0 16 (k - 1)

module _ (n m : ℕ) (rows : List ℕ) (b : Box n m rows) (k : ℕ) (low : 1 ≤ k) (high : k ≤ 16) (os : List Operation) where
  abbrev now : DesignState
  now = after_operations (new_design n m rows) os

  now_boxed : Boxed now
  now_boxed = boxed_run (new_design n m rows) (boxed_begun n m rows b) os

  -- where none did, it is refused by 17
  pub never_set : leaves k os ≡ true → first (return_checks now k) ≡ Err UnsetMark
  unfolding return_checks
  never_set h =
      sym (found (skip (boxed_has now now_boxed) (skip (range_true 1 16 k low high)
      (stop (ap is_set (mark_stays k low (new_design n m rows) os h ∙ begins_unset n m rows k))))))

  split_held : (p : LastSet k os) → mark_at now k ≡ keeps (after_operations (new_design n m rows) p.earlier).rows
  unfolding after_operations after_operation
  split_held p =
      let s = after_operations (new_design n m rows) p.earlier in
      ap (λ (l : List Operation). mark_at (after_operations (new_design n m rows) l) k) p.splits
      ∙ ap (λ (r : DesignState). mark_at r k) (foldl-append after_operation (new_design n m rows) p.earlier (sets k ∷ p.later))
      ∙ mark_stays k low (set_mark s k) p.later p.left ∙ mark_keeps k low high s (boxed_run (new_design n m rows) (boxed_begun n m rows b) p.earlier)

  -- where an operation set the mark, the return is accepted
  pub set_accepted : LastSet k os → first (return_checks now k) ≡ (Ok tt)
  set_accepted p = held_accepted k low high now now_boxed (after_operations (new_design n m rows) p.earlier).rows (split_held p)

  -- a return that is accepted brings back the rows of the moment before the last operation that set the mark
  pub accepted_return : first (return_checks now k) ≡ (Ok tt) → (p : LastSet k os) × (return_to now k ≡ with_rows now (after_operations (new_design n m rows) p.earlier).rows)
  accepted_return h =
      ⊎_elim (λ q. absurd (not_both (never_set q) h))
      (λ p. (p, held_returns k low high now now_boxed (after_operations (new_design n m rows) p.earlier).rows (split_held p))) (last_or_none k os)
