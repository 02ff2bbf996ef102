-- Any operations with any arguments can be made of a design, one after the other, so that what is proved of a design that its own calls
-- made is proved of every history. Assumes nothing.
use Prim.Native.Nat.{ℕ}
use mathlib.Core.Path.{◌≡◌, refl, sym, ap, ◌∙◌}
use mathlib.Core.Logic.{◌↔◌, ◌⊎◌, inl, inr}
use mathlib.Core.Bool.{true, false≢true}
use mathlib.Core.List.Memᴰ
use mathlib.Core.List.{List, [], ◌∷◌, Memᴰ}
use native.Mathlib.Omega.{arith}
use Rattle.boolean.specs.Functions.{swapped}
use Rattle.boolean.proofs.Histories as histories
use Rattle.boolean.proofs.Selection.{of_cons}
use Rattle.refusals.specs.Table.{Check, first, box_checks, Reply, refusal, reply_after, after}
use Rattle.refusals.proofs.Outcomes.{refusal_leaves}
use Rattle.columns.specs.Addition.{added_rows}
use Rattle.design.specs.declared.Design.{Design}
use Rattle.design.specs.Model.{DesignState, SoundState, begin, keeps, mark_at, rows_kept, with_rows, with_mark, swap_checks, design_add_checks, mark_checks, return_checks, swap_inputs, add, set_mark, return_to}
use Rattle.design.specs.Calls.{state_of_design, design_of, SoundDesign, Operated}
use Rattle.design.specs.Statements.{Operation, swaps, adds, sets, returns, operation_checks, after_operation, only_swaps, OperationCalled, DesignMade, BegunBy, CalledBy}
use Rattle.design.proofs.Operations.{sound_begin, sound_after}
use Rattle.design.proofs.Whole.{stands_for, sound_of}
use Rattle.design.proofs.Theorems.{called_sound}

-- an operation's record, from what its checks found: it is done or refused, and says so
operated_any : (d : Design) (checks : List Check) (result : DesignState) → SoundDesign d → SoundState (after (first checks) result (state_of_design d))
    → let made = after (first checks) result (state_of_design d) in Operated d checks made (reply_after (first checks) []) (design_of made)
operated_any d checks result s t = record {
  unchanged = λ k e. ap design_of (sym (refusal_leaves (first checks) [] result (state_of_design d) (sym e))) ∙ sym s.only;
  reply = refl;
  content = stands_for _ t;
  whole = λ h. refl;
}

-- what an operation says of a design
abbrev said_of : (o : Operation) (d : Design) → Reply
said_of o d = reply_after (first (operation_checks (state_of_design d) o)) []

-- every operation has an outcome, whatever its arguments
called_any : (o : Operation) (d : Design) → SoundDesign d → CalledBy o d (design_of (after_operation (state_of_design d) o))
unfolding operation_checks after_operation swap_inputs add set_mark return_to
called_any (swaps x y) d s =
    let a = state_of_design d in
    (said_of (swaps x y) d, operated_any d (swap_checks a x y) (with_rows a (swapped a.rows x y)) s (sound_after a s.sound (swaps x y)))
called_any (adds j w b) d s =
    let a = state_of_design d in
    let p = operated_any d (design_add_checks a j w b) (with_rows a (added_rows j w b a.rows)) s (sound_after a s.sound (adds j w b)) in
    (said_of (adds j w b) d, record { unchanged = p.unchanged; operated = λ h. p })
called_any (sets k) d s =
    let a = state_of_design d in
    (said_of (sets k) d, operated_any d (mark_checks a k) (with_mark a k (keeps a.rows)) s (sound_after a s.sound (sets k)))
called_any (returns k) d s =
    let a = state_of_design d in
    (said_of (returns k) d, operated_any d (return_checks a k) (with_rows a (rows_kept (mark_at a k) a.rows)) s (sound_after a s.sound (returns k)))

-- and so has every list of operations
pub any_made : {n m : ℕ} {rows : List ℕ} (os : List Operation) → (d : Design) × DesignMade n m rows os d
any_made {n} {m} {rows} os =
    histories.any_made (BegunBy n m rows) CalledBy SoundDesign
    (λ o d s. let c = called_any o d s in (design_of (after_operation (state_of_design d) o), c, called_sound o c.0 c.1 s))
    (design_of (begin n m rows)) (reply_after (first (box_checks n m rows)) [], record { reply = refl; whole = refl })
    (sound_of (begin n m rows) (sound_begin n m rows)) os

-- No operation changes the box but swaps: exactly where each of them is a swap or sets a mark.
abbrev SwapOrSet : Operation → Type 0
SwapOrSet o = ((x y : ℕ) × (o ≡ swaps x y)) ⊎ ((k : ℕ) × (o ≡ sets k))

only_these : (os : List Operation) → only_swaps os ≡ true → (o : Operation) → Memᴰ o os → SwapOrSet o
unfolding only_swaps
only_these [] h o i = absurd (Memᴰ.not-nil i)
only_these (swaps x y ∷ os) h o i = of_cons SwapOrSet (inl (x, y, refl)) (λ j. only_these os h o j) i
only_these (adds j w b ∷ os) h o i = absurd (false≢true h)
only_these (sets k ∷ os) h o i = of_cons SwapOrSet (inr (k, refl)) (λ j. only_these os h o j) i
only_these (returns k ∷ os) h o i = absurd (false≢true h)

no_addition : (j w b : ℕ) → SwapOrSet (adds j w b) → ⊥
no_addition j w b (inl t) = let e = t.2 in let z : ◌≡◌ {A = ℕ} 0 1 = cc in omega arith
no_addition j w b (inr t) = let e = t.1 in let z : ◌≡◌ {A = ℕ} 0 1 = cc in omega arith

no_return : (k : ℕ) → SwapOrSet (returns k) → ⊥
no_return k (inl t) = let e = t.2 in let z : ◌≡◌ {A = ℕ} 0 1 = cc in omega arith
no_return k (inr t) = let e = t.1 in let z : ◌≡◌ {A = ℕ} 0 1 = cc in omega arith

these_only : (os : List Operation) → ((o : Operation) → Memᴰ o os → SwapOrSet o) → only_swaps os ≡ true
unfolding only_swaps
these_only [] f = refl
these_only (swaps x y ∷ os) f = these_only os (λ o i. f o (Memᴰ.tail i))
these_only (adds j w b ∷ os) f = absurd (no_addition j w b (f (adds j w b) (Memᴰ.head refl)))
these_only (sets k ∷ os) f = these_only os (λ o i. f o (Memᴰ.tail i))
these_only (returns k ∷ os) f = absurd (no_return k (f (returns k) (Memᴰ.head refl)))

pub only_swaps_exactly : (os : List Operation) → (only_swaps os ≡ true) ↔ ((o : Operation) → Memᴰ o os → SwapOrSet o)
only_swaps_exactly os = (only_these os, these_only os)
