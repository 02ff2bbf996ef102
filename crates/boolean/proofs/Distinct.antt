-- No two members equal: what it says of places, and of each member and those after it.
use Prim.Native.Nat.{ℕ, zero, suc, ◌+◌, ◌<◌, suc-le-suc}
use mathlib.Core.Path.{◌≡◌, refl, sym, ap, ap₂, ◌∙◌}
use mathlib.Core.Bool.{Bool, true, not, ◌&&◌}
use mathlib.Core.List.{List, [], ◌∷◌}
use native.Mathlib.Nat.{not-suc-le-zero, le_of_suc-le-suc, zero-lt-suc}
use borrow.Author.Tests.{eqb-false, ne_eqb, not-true}
use lib.Dec.{eqb}
use lib.ListN.{length, drop}
use Rattle.std.specs.List.{list_all, enumerate_from}
use Rattle.std.proofs.lemmas.List.{drop-drop}
use Rattle.boolean.specs.Sums.{every, distinct}
use Rattle.boolean.specs.Functions.{at}
use Rattle.boolean.proofs.Every.{both, both_true, every_at, every_of}

-- a member differs from another
abbrev pub unlike : ℕ → ℕ → Bool
unlike x y = not (eqb x y)

-- distinct: members at two places differ; and back
pub distinct_at : (xs : List ℕ) → distinct eqb xs ≡ true → (x y : ℕ) → x < y → y < length xs → at xs x ≡ at xs y → ⊥
unfolding distinct
distinct_at [] d x y l h e = absurd (not-suc-le-zero h)
distinct_at (a ∷ xs) d x zero l h e = absurd (not-suc-le-zero l)
distinct_at (a ∷ xs) d zero (suc y) l h e =
    eqb-false a (at xs y) (not-true (eqb a (at xs y)) (every_at (unlike a) 0 xs (both (every (unlike a) xs) (distinct eqb xs) d).0 y (le_of_suc-le-suc h))) e
distinct_at (a ∷ xs) d (suc x) (suc y) l h e =
    distinct_at xs (both (every (unlike a) xs) (distinct eqb xs) d).1 x y (le_of_suc-le-suc l) (le_of_suc-le-suc h) e

pub distinct_of : (xs : List ℕ) → ((x y : ℕ) → x < y → y < length xs → at xs x ≡ at xs y → ⊥) → distinct eqb xs ≡ true
unfolding distinct
distinct_of [] h = refl
distinct_of (a ∷ xs) h =
    both_true (every (unlike a) xs) (distinct eqb xs)
    (every_of (unlike a) 0 xs (λ k l. ap not (ne_eqb a (at xs k) (λ e. h 0 (suc k) (zero-lt-suc k) (suc-le-suc l) e))))
    (distinct_of xs (λ x y l m e. h (suc x) (suc y) (suc-le-suc l) (suc-le-suc m) e))

-- a list is distinct where each member differs from all that come after it
module _ {A : Type 0} (same : A → A → Bool) (all : List A) where
  abbrev pub differs : ℕ × A → Bool
  differs p = every (λ y. not (same p.1 y)) (drop (p.0 + 1) all)

  differ_from : (i : ℕ) (xs : List A) → drop i all ≡ xs → list_all differs (enumerate_from i xs) ≡ distinct same xs
  unfolding distinct
  differ_from i [] e = refl
  differ_from i (x ∷ xs) e =
      let rest : drop (i + 1) all ≡ xs = sym (drop-drop 1 i all) ∙ ap (drop 1) e in
      ap₂ (λ (a b : Bool). a && b) (ap (every (λ y. not (same x y))) rest) (differ_from (i + 1) xs rest)

  pub all_differ : list_all differs (enumerate_from 0 all) ≡ distinct same all
  all_differ = differ_from 0 all refl
