-- A loop that stores runs of elements in a list, one run after the other, from a start on.
use mathlib.Core.Path.{◌≡◌, refl, sym, ap, ◌∙◌}
use mathlib.Core.List.{List, [], ◌∷◌, ◌++◌}
use Prim.Native.Nat.{ℕ, suc, ◌+◌, ◌≤◌}
use native.Mathlib.Nat.{add-zero}
use native.Mathlib.Omega.{arith}
use lib.ListN.{length, set, length-append}
use lib.Seq.{sets, length-sets}

module _ {A : Type 0} where
  -- two runs, one after the other, are one
  pub sets_append : (l : List A) (i : ℕ) (xs ys : List A) → sets l i (xs ++ ys) ≡ sets (sets l i xs) (i + length xs) ys
  sets_append l i [] ys = ap (λ (k : ℕ). sets l k ys) (sym (add-zero i))
  sets_append l i (x ∷ xs) ys =
      let shift : suc i + length xs ≡ i + suc (length xs) = omega arith in
      sets_append (set l i x) (suc i) xs ys ∙ ap (λ (k : ℕ). sets (sets (set l i x) (suc i) xs) k ys) shift

  -- the new elements stand in the list from the start on, and the next place is the one after them
  pub record Stored (start : ℕ) (old new : List A) (next : ℕ) (list : List A) : Type 0 where
    pub place : next ≡ start + length new
    pub stored : list ≡ sets old start new

  pub stored_none : (start : ℕ) (old : List A) → Stored start old [] start old
  stored_none start old = record { place = sym (add-zero start); stored = refl }

  module _ {start : ℕ} {old new : List A} {next : ℕ} {list : List A} (t : Stored start old new next list) where
    pub stored_length : length list ≡ length old
    stored_length = ap length t.stored ∙ length-sets old start new

    -- one run more
    pub stored_room : (more : List A) → start + length (new ++ more) ≤ length old → next + length more ≤ length list
    stored_room more h = omega (arith, t.place, stored_length, length-append new more)

    pub stored_more : (more : List A) {after : ℕ} {list' : List A} → after ≡ next + length more → list' ≡ sets list next more → Stored start old (new ++ more) after list'
    stored_more more p q = record {
      place = omega (arith, t.place, length-append new more);
      stored =
          q ∙ ap (λ (l : List A). sets l next more) t.stored ∙ ap (λ (k : ℕ). sets (sets old start new) k more) t.place
          ∙ sym (sets_append old start new more);
    }
