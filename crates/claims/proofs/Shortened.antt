-- Document 02 §12, sentence by sentence: two additions to one column are one, an addition made twice restores the box, any may be
-- exchanged, and
-- a list equals one with at most one addition for each column.
use Rattle.std.specs.Prelude.{Result, Ok, Err, ⊤}
use Rattle.refusals.specs.declared.Refusal.{Refusal}
use mathlib.Core.Path.{◌≡◌, refl, sym, ap, ap₂, ◌∙◌, subst}
use mathlib.Core.Bool.{Bool, true, false, not, cond, false≢true}
use mathlib.Core.List.{List, [], ◌∷◌, ◌++◌, Memᴰ}
use Prim.Native.Nat.{ℕ, ◌*◌, ◌-◌, ◌^◌, ◌≤◌}
use native.Mathlib.Omega.{arith}
use borrow.Author.Tests.{not-false}
use lib.Bits.{bit_xor, xor_self, xor_zero_r}
use lib.ListN.{length}
use Rattle.boolean.specs.Bits.{affine}
use Rattle.boolean.specs.Sums.{keep}
use Rattle.boolean.proofs.Kept.{each_cong, keep_takes, keep_drops, mem_keep}
use Rattle.boolean.proofs.Lists.{mem_list_from}
use Rattle.boolean.proofs.Xor.{xor_left_comm}
use Rattle.refusals.specs.Table.{Box, first, box_checks, is_accepted}
use Rattle.refusals.proofs.Checks.{box}
use Rattle.columns.specs.Addition.{Addition, addition_checked, standing_rows, rows_after_all}
use Rattle.columns.proofs.Accepted.{accepts}
use Rattle.columns.proofs.Additions.{Fits, accepted_fits, standing_keeps_box}
use Rattle.claims.specs.Shortening.{accepted_only, together, to_column, merged, one_for_each, adds_nothing}
use Rattle.claims.specs.Shortening.{shortened, Shortens}
use Rattle.claims.proofs.Effects.{own_checked, checked_own, fits_accepted, term, effect, effect_fits, effects, effects_append}
use Rattle.claims.proofs.Effects.{same_effects}
use Rattle.claims.proofs.Merging.{AllFit, together_term, together_fits, merged_fits, columns_effects, dropped_effects}
use Rattle.claims.proofs.Merging.{refused_effect, nothing_effect}
use Rattle.claims.proofs.Shorter.{short, column_once, ascending_columns, no_longer}

-- the rows of an accepted addition are a box
accepted_sound : (n m : ℕ) (rows : List ℕ) (a : Addition) → addition_checked n m rows a ≡ (Ok tt) → Box n m rows
unfolding addition_checked
accepted_sound n m rows a h = (accepts n m rows a.column a.mask a.constant (length a.lent) h).sound

-- ---- two additions to one column, each accepted when its turn comes
module _ (n m : ℕ) (rows : List ℕ) (a b : Addition)
    (first_accepted : addition_checked n m rows a ≡ (Ok tt)) (second_accepted : addition_checked n m (standing_rows n m rows a) b ≡ (Ok tt))
    (one_column : a.column ≡ b.column) where
  sound : Box n m rows
  sound = accepted_sound n m rows a first_accepted

  fits_a : Fits n m a
  fits_a = accepted_fits n m rows a first_accepted

  fits_b : Fits n m b
  fits_b = accepted_fits n m (standing_rows n m rows a) b second_accepted

  both_terms : (x : ℕ) → effects n m (a ∷ b ∷ []) x ≡ bit_xor (term a x) (term b x)
  unfolding effects
  both_terms x = ap₂ bit_xor (effect_fits fits_a x) (xor_zero_r (effect n m b x) ∙ effect_fits fits_b x)

  -- "two accepted additions to one column equal one whose mask and constant are the XORs of theirs"
  pub two_are_one : rows_after_all n m rows (a ∷ b ∷ []) ≡ standing_rows n m rows (together a b)
  unfolding effects rows_after_all
  two_are_one = same_effects sound (a ∷ b ∷ []) (together a b ∷ []) (λ x l.
      both_terms x ∙ sym (xor_zero_r (effect n m (together a b) x) ∙ effect_fits (together_fits fits_a fits_b) x
      ∙ together_term a b x one_column))

  -- which is accepted too
  pub together_accepted : addition_checked n m rows (together a b) ≡ (Ok tt)
  together_accepted = fits_accepted sound (together_fits fits_a fits_b)

  -- "an accepted addition made twice restores the box", whatever the two arrays that it is lent hold
  pub twice_restores : a.mask ≡ b.mask → a.constant ≡ b.constant → rows_after_all n m rows (a ∷ b ∷ []) ≡ rows
  unfolding effects rows_after_all
  twice_restores p q = same_effects sound (a ∷ b ∷ []) [] (λ x l.
      both_terms x ∙ ap (bit_xor (term a x)) (sym (same_term x)) ∙ xor_self (term a x))
    where
      same_term : (x : ℕ) → term a x ≡ term b x
      same_term x =
          ap (λ (j : ℕ). affine a.mask a.constant x * 2 ^ (j - 1)) one_column
          ∙ ap₂ (λ (w c : ℕ). affine w c x * 2 ^ (b.column - 1)) p q

-- whether an addition to a box is accepted does not change with the additions before it
pub still_accepted : (n m : ℕ) (rows : List ℕ) (a b : Addition) → Box n m rows
    → addition_checked n m (standing_rows n m rows a) b ≡ addition_checked n m rows b
still_accepted n m rows a b box = checked_own (standing_keeps_box n m rows box a) b ∙ sym (checked_own box b)

-- whether it is accepted in its turn is then told by its own arguments
accepted_own : {n m : ℕ} (list : List Addition) {rows : List ℕ} → Box n m rows
    → accepted_only n m rows list ≡ keep (λ a. is_accepted (own_checked n m a)) list
unfolding accepted_only keep
accepted_own [] box = refl
accepted_own {n} {m} (a ∷ list) {rows} box =
    ap (λ (rest : List Addition). cond (is_accepted (addition_checked n m rows a)) (a ∷ rest) rest)
    (accepted_own list (standing_keeps_box n m rows box a))
    ∙ ap (λ (k : Result ⊤ Refusal). cond (is_accepted k) (a ∷ keep own list) (keep own list)) (checked_own box a)
    ∙ go (own a) refl
  where
    own : Addition → Bool
    own b = is_accepted (own_checked n m b)

    go : (t : Bool) → own a ≡ t → cond t (a ∷ keep own list) (keep own list) ≡ keep own (a ∷ list)
    go true e = sym (keep_takes own a list e)
    go false e = sym (keep_drops own a list e)

-- so one that is accepted is accepted again, and restores the box
pub made_twice : (n m : ℕ) (rows : List ℕ) (a : Addition) → addition_checked n m rows a ≡ (Ok tt)
    → rows_after_all n m rows (a ∷ a ∷ []) ≡ rows
made_twice n m rows a h =
    twice_restores n m rows a a h (still_accepted n m rows a a (accepted_sound n m rows a h) ∙ h) refl refl refl

-- ---- lists of additions to an accepted box
module _ (n m : ℕ) (rows : List ℕ) (accepted : first (box_checks n m rows) ≡ (Ok tt)) where
  accepted_box : Box n m rows
  accepted_box = box n m rows [] accepted

  -- "accepted additions to any columns may be exchanged", anywhere in a list; and refused ones too
  pub exchanged : (before rest : List Addition) (a b : Addition)
      → rows_after_all n m rows (before ++ (a ∷ b ∷ rest)) ≡ rows_after_all n m rows (before ++ (b ∷ a ∷ rest))
  unfolding effects
  exchanged before rest a b = same_effects accepted_box (before ++ (a ∷ b ∷ rest)) (before ++ (b ∷ a ∷ rest)) (λ x l.
      effects_append n m before (a ∷ b ∷ rest) x
      ∙ ap (bit_xor (effects n m before x)) (xor_left_comm (effect n m a x) (effect n m b x) (effects n m rest x))
      ∙ sym (effects_append n m before (b ∷ a ∷ rest) x))

  -- "Any list, its refused additions dropped,": each judged in its turn, or all on the rows at the start, the same additions are left
  pub accepted_in_turn : (list : List Addition) → accepted_only n m rows list ≡ keep (λ a. is_accepted (addition_checked n m rows a)) list
  unfolding keep
  accepted_in_turn list =
      accepted_own list accepted_box
      ∙ each_cong list _ _ (λ a. ap (λ (k : Result ⊤ Refusal). elim (is_accepted k) [ true ↦ a ∷ [] | false ↦ [] ])
      (sym (checked_own accepted_box a)))

  list_fits : (list : List Addition) → AllFit n m (accepted_only n m rows list)
  list_fits list a k =
      let t = subst (λ (l : List Addition). Memᴰ a l) (accepted_in_turn list) k in
      accepted_fits n m rows a (yes (addition_checked n m rows a) (mem_keep (λ a. is_accepted (addition_checked n m rows a)) list a t).1)
    where
      yes : (k : Result ⊤ Refusal) → is_accepted k ≡ true → k ≡ (Ok tt)
      yes (Ok tt) e = refl
      yes (Err r) e = absurd (false≢true e)

  accepted_effects : (list : List Addition) (x : ℕ) → effects n m (accepted_only n m rows list) x ≡ effects n m list x
  accepted_effects list x =
      ap (λ (l : List Addition). effects n m l x) (accepted_own list accepted_box)
      ∙ dropped_effects n m (λ a. is_accepted (own_checked n m a)) x list (λ a k e. refused_effect n m a x e)

  refused_dropped : (list : List Addition) → rows_after_all n m rows list ≡ rows_after_all n m rows (accepted_only n m rows list)
  refused_dropped list = same_effects accepted_box list (accepted_only n m rows list) (λ x l. sym (accepted_effects list x))

  -- "then equals one with at most one addition for each column": each of them is lent an array of 2^n entries
  module _ (lent : List ℕ) (room : length lent ≡ 2 ^ n) (list : List Addition) where
    abbrev kept : List Addition
    kept = accepted_only n m rows list

    -- one for each column
    one_for_each_lem : rows_after_all n m rows list ≡ rows_after_all n m rows (one_for_each m lent kept)
    one_for_each_lem = same_effects accepted_box list (one_for_each m lent kept) (λ x l.
        sym (columns_effects n m lent room x kept (list_fits list) ∙ accepted_effects list x))

    -- the rows that stand are equal
    short_list : rows_after_all n m rows list ≡ rows_after_all n m rows (shortened n m rows lent list)
    unfolding shortened
    short_list =
        one_for_each_lem ∙ same_effects accepted_box (one_for_each m lent kept) (short m lent kept) (λ x l.
        sym (dropped_effects n m (λ a. not (adds_nothing a)) x (one_for_each m lent kept)
        (λ a k e. nothing_effect n m a x (not-false (adds_nothing a) e))))

    -- no column has two additions
    short_once : (j : ℕ) → length (to_column j (shortened n m rows lent list)) ≤ 1
    unfolding shortened
    short_once j = column_once j (short m lent kept) (ascending_columns m lent kept)

    -- none is refused
    short_accepted : (a : Addition) → Memᴰ a (shortened n m rows lent list) → addition_checked n m rows a ≡ (Ok tt)
    unfolding shortened one_for_each
    short_accepted a k =
        let t = mem_list_from 1 m (merged lent kept) a (mem_keep (λ a. not (adds_nothing a)) (one_for_each m lent kept) a k).0 in
        fits_accepted accepted_box
        (subst (Fits n m) (sym t.3) (merged_fits {list = kept} room (list_fits list) t.0 t.1 (omega (arith, t.2))))

    -- and there are no more than were accepted
    short_no_longer : length (shortened n m rows lent list) ≤ length kept
    unfolding shortened
    short_no_longer = no_longer m lent kept

    pub shortens : Shortens n m rows list (shortened n m rows lent list)
    shortens = record {
      refused_dropped = refused_dropped list;
      same_rows = short_list;
      once = short_once;
      accepted = short_accepted;
      no_longer = short_no_longer;
    }
