-- Each operation of the model: what its checks say, what it leaves alone, and that the box and each mark's box stay accepted. Assumes nothing.
use Rattle.std.specs.Prelude.{Ok, Err}
use Prim.Native.Nat.{ℕ, zero, suc, ◌-◌, ◌^◌, ◌<◌, ◌≤◌}
use mathlib.Core.Path.{◌≡◌, refl, sym, ap, ◌∙◌}
use mathlib.Core.Bool.{Bool, true, false}
use mathlib.Core.List.{List, [], ◌∷◌, ◌++◌}
use borrow.Author.Tests.{ltb-true, lt-ltb, le-ltb, eq-eqb}
use lib.Dec.{ltb, eqb}
use lib.ListN.{get_or, set, length-set}
use Rattle.boolean.specs.Functions.{swapped}
use Rattle.boolean.specs.Sums.{list_below, list_from}
use Rattle.refusals.specs.Table.{Check, ◌unless◌, first, in_range, box_checks, Box}
use Rattle.refusals.specs.declared.Refusal.{Refusal}
use Rattle.refusals.specs.declared.Refusal.TheVariants.{Parameter, WrittenLength}
use Rattle.refusals.proofs.Checks.{passed, found, first_passed, first_append, box, box_accepted, skip, stop, end, after_cases}
use Rattle.refusals.proofs.Bounds.{range_low, range_high, range_true}
use Rattle.columns.specs.Addition.{added_rows, addition_checks}
use Rattle.columns.proofs.Additions.{Fits, addition_keeps_box}
use Rattle.design.specs.Model.{Mark, unset, keeps, DesignState, new_design, no_box, mark_at, rows_kept, with_rows, with_mark, swap_checks, design_add_checks, mark_checks, return_checks, design_read_checks, begin, swap_inputs, add, set_mark, return_to, SoundMark, SoundMarks, Boxed, SoundState, boxed, without}
use Rattle.design.specs.Statements.{Operation, swaps, adds, sets, returns, operation_checks, after_operation}
use Rattle.refusals.proofs.Swapped.{swapped_box}

-- ---- marks
pub sound_at : (n m : ℕ) (xs : List Mark) (i : ℕ) → SoundMarks n m xs → SoundMark n m (get_or xs i unset)
sound_at n m [] i h = tt
sound_at n m (x ∷ xs) zero h = h.0
sound_at n m (x ∷ xs) (suc i) h = sound_at n m xs i h.1

pub sound_set : (n m : ℕ) (xs : List Mark) (i : ℕ) (x : Mark) → SoundMarks n m xs → SoundMark n m x → SoundMarks n m (set xs i x)
sound_set n m [] i x h k = h
sound_set n m (y ∷ xs) zero x h k = (k, h.1)
sound_set n m (y ∷ xs) (suc i) x h k = (h.0, sound_set n m xs i x h.1 k)

kept_box : (n m : ℕ) (x : Mark) (rows : List ℕ) → SoundMark n m x → Box n m rows → Box n m (rows_kept x rows)
kept_box n m unset rows h b = b
kept_box n m (keeps kept) rows h b = h

-- ---- a design of a box begins with it, and each operation keeps it
pub boxed_begun : (n m : ℕ) (rows : List ℕ) → Box n m rows → Boxed (new_design n m rows)
unfolding new_design list_below list_from
boxed_begun n m rows b = record {
  box = b;
  kept = (tt, (tt, (tt, (tt, (tt, (tt, (tt, (tt, (tt, (tt, (tt, (tt, (tt, (tt, (tt, (tt, tt))))))))))))))));
  sixteen = refl;
}

module _ (s : DesignState) (t : Boxed s) where
  -- so the first line of every operation's checks is passed
  pub boxed_has : in_range 1 8 s.n ≡ true
  boxed_has = range_true 1 8 s.n t.box.n_low t.box.n_high

  boxed_swap : (x y : ℕ) → Boxed (swap_inputs s x y)
  unfolding swap_inputs
  boxed_swap x y =
      after_cases (first (swap_checks s x y)) (with_rows s (swapped s.rows x y)) s Boxed
      (λ h. record { box = swapped_box t.box x y; kept = t.kept; sixteen = t.sixteen }) t

  pub add_fits : (j w b : ℕ) → first (design_add_checks s j w b) ≡ (Ok tt) → Fits s.n s.m (record { column = j; mask = w; constant = b; lent = s.rows })
  unfolding design_add_checks
  add_fits j w b h =
      let p = (passed (design_add_checks s j w b) h).1 in
      record {
        column_low = range_low 1 s.m j p.0;
        column_high = range_high 1 s.m j p.0;
        mask_high = ltb-true w (2 ^ s.n) p.1.0;
        constant_high = ltb-true b 2 p.1.1.0;
        room = t.box.size;
      }

  boxed_add : (j w b : ℕ) → Boxed (add s j w b)
  unfolding add
  boxed_add j w b =
      after_cases (first (design_add_checks s j w b)) (with_rows s (added_rows j w b s.rows)) s Boxed
      (λ h. record {
        box = addition_keeps_box s.n s.m s.rows t.box (record { column = j; mask = w; constant = b; lent = s.rows }) (add_fits j w b h);
        kept = t.kept;
        sixteen = t.sixteen;
      }) t

  boxed_mark : (k : ℕ) → Boxed (set_mark s k)
  unfolding set_mark
  boxed_mark k =
      after_cases (first (mark_checks s k)) (with_mark s k (keeps s.rows)) s Boxed
      (λ h. record {
        box = t.box;
        kept = sound_set s.n s.m s.marks (k - 1) (keeps s.rows) t.kept t.box;
        sixteen = length-set s.marks (k - 1) (keeps s.rows) ∙ t.sixteen;
      }) t

  boxed_return : (k : ℕ) → Boxed (return_to s k)
  unfolding return_to
  boxed_return k =
      after_cases (first (return_checks s k)) (with_rows s (rows_kept (mark_at s k) s.rows)) s Boxed
      (λ h. record {
        box = kept_box s.n s.m (mark_at s k) s.rows (sound_at s.n s.m s.marks (k - 1) t.kept) t.box;
        kept = t.kept;
        sixteen = t.sixteen;
      }) t

  pub boxed_after : (o : Operation) → Boxed (after_operation s o)
  unfolding after_operation
  boxed_after (swaps x y) = boxed_swap x y
  boxed_after (adds j w b) = boxed_add j w b
  boxed_after (sets k) = boxed_mark k
  boxed_after (returns k) = boxed_return k

-- ---- without a box every operation is refused, and there is none afterwards; reading is refused too
pub none_refuses : (o : Operation) → first (operation_checks no_box o) ≡ Err Parameter
unfolding operation_checks swap_checks design_add_checks mark_checks return_checks first no_box new_design
none_refuses (swaps x y) = refl
none_refuses (adds j w b) = refl
none_refuses (sets k) = refl
none_refuses (returns k) = refl

pub none_unread : (room : ℕ) → first (design_read_checks no_box room) ≡ Err WrittenLength
unfolding design_read_checks first no_box new_design
none_unread room = refl

pub none_after : (o : Operation) → after_operation no_box o ≡ no_box
unfolding after_operation swap_inputs add set_mark return_to swap_checks design_add_checks mark_checks return_checks first no_box new_design
none_after (swaps x y) = refl
none_after (adds j w b) = refl
none_after (sets k) = refl
none_after (returns k) = refl

-- ---- so a design begins sound, and each operation keeps it so
pub sound_begin : (n m : ℕ) (rows : List ℕ) → SoundState (begin n m rows)
unfolding begin
sound_begin n m rows =
    after_cases (first (box_checks n m rows)) (new_design n m rows) no_box SoundState (λ h. boxed (boxed_begun n m rows (box n m rows [] h))) (without refl)

pub sound_after : (s : DesignState) → SoundState s → (o : Operation) → SoundState (after_operation s o)
sound_after s (boxed t) o = boxed (boxed_after s t o)
sound_after s (without e) o = without (ap (λ (r : DesignState). after_operation r o) e ∙ none_after o)

-- ---- add has the outcome of column addition: on a box, with an array as long as the rows, the checks find the same
first_last : (e : Refusal) (ok : Bool) (cs : List Check) → ok ≡ true → first (cs ++ ((e unless ok) ∷ [])) ≡ first cs
unfolding first
first_last e ok [] h = rw h
first_last e ok ((f unless true) ∷ cs) h = first_last e ok cs h
first_last e ok ((f unless false) ∷ cs) h = refl

pub same_checks : (s : DesignState) → Boxed s → (j w b room : ℕ) → room ≡ 2 ^ s.n → first (addition_checks s.n s.m s.rows j w b room) ≡ first (design_add_checks s j w b)
unfolding addition_checks design_add_checks
same_checks s t j w b room e =
    first_append (box_checks s.n s.m s.rows) _ (box_accepted s.n s.m s.rows t.box)
    ∙ first_last WrittenLength (eqb room (2 ^ s.n))
    ((Parameter unless in_range 1 s.m j) ∷ (Parameter unless ltb w (2 ^ s.n)) ∷ (Parameter unless ltb b 2) ∷ []) (eq-eqb room (2 ^ s.n) e)
    ∙ sym (first_passed Parameter (in_range 1 8 s.n) _ (boxed_has s t))

-- ---- the checks of a swap, by the tests that the code runs
module _ (s : DesignState) (x y : ℕ) (b : in_range 1 8 s.n ≡ true) where
  pub swap_first_out : 2 ^ s.n ≤ x → first (swap_checks s x y) ≡ Err Parameter
  unfolding swap_checks
  swap_first_out h = sym (found (skip b (stop (le-ltb x (2 ^ s.n) h))))

  pub swap_second_out : x < 2 ^ s.n → 2 ^ s.n ≤ y → first (swap_checks s x y) ≡ Err Parameter
  unfolding swap_checks
  swap_second_out l h = sym (found (skip b (skip (lt-ltb x (2 ^ s.n) l) (stop (le-ltb y (2 ^ s.n) h)))))

  pub swap_in : x < 2 ^ s.n → y < 2 ^ s.n → first (swap_checks s x y) ≡ (Ok tt)
  unfolding swap_checks
  swap_in l h = sym (found (skip b (skip (lt-ltb x (2 ^ s.n) l) (skip (lt-ltb y (2 ^ s.n) h) end))))
