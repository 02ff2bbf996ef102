-- Two parts as C has them: what their merging asks, and which of the two is taken. Assumes nothing.
use Rattle.std.specs.Prelude.{Ok}
use Prim.Native.Nat.{ℕ, zero, suc, ◌+◌, ◌≤◌}
use mathlib.Core.Path.{◌≡◌, refl, sym, ap, ◌∙◌}
use mathlib.Core.Bool.{Bool, true, false, ◌&&◌, ◌||◌}
use mathlib.Core.List.{List, [], ◌∷◌, ◌++◌}
use native.Mathlib.Omega.{arith}
use borrow.Author.Tests.{leb-true, eqb-true, eq-eqb, ne_eqb}
use lib.Dec.{eqb}
use lib.ListN.{length, replicate, take, length-replicate}
use lib.Seq.{take_all}
use Rattle.boolean.specs.Functions.{at}
use Rattle.refusals.specs.Table.{first}
use Rattle.refusals.specs.Statements.{◌unless_that◌}
use Rattle.refusals.proofs.Checks.{passed}
use Rattle.refusals.proofs.Means.{Means, line, end, same, at_most}
use Rattle.masks.specs.Parts.{earlier, merged_figures}
use Rattle.satmegwo_parts.specs.Exports.{part_figures, sum_size, second_taken, merged_part, merge_checks}

-- what an accepted merging has: equally many elements, three or more, and room for them
pub record Merges (x y : List ℕ) (room : ℕ) : Type 0 where
  pub enough : 3 ≤ length x
  pub same : length y ≡ length x
  pub fits : room ≡ length x

pub merges : (x y : List ℕ) (room : ℕ) → first (merge_checks x y room) ≡ (Ok tt) → Merges x y room
unfolding merge_checks
merges x y room h =
    let p = passed (merge_checks x y room) h in
    record {
      enough = leb-true 3 (length x) p.0;
      same = eqb-true (length y) (length x) p.1.0;
      fits = eqb-true room (length x) p.1.1.1.1.0;
    }

-- the second has no combination, the first has none, or both have one
pub second_empty : (before : ℕ → ℕ → Bool) (x y : List ℕ) → at y 0 ≡ 0 → false ≡ second_taken before x y
unfolding second_taken
second_empty before x y h = sym (simp (eq-eqb (at y 0) 0 h))

pub first_empty : (before : ℕ → ℕ → Bool) (x y : List ℕ) → (at y 0 ≡ 0 → ⊥) → at x 0 ≡ 0 → true ≡ second_taken before x y
unfolding second_taken
first_empty before x y hy hx = sym (simp (ne_eqb (at y 0) 0 hy, eq-eqb (at x 0) 0 hx))

pub both_found : (before : ℕ → ℕ → Bool) (x y : List ℕ) → (at y 0 ≡ 0 → ⊥) → (at x 0 ≡ 0 → ⊥)
    → (before (at y 1) (at x 1) || (eqb (at y 1) (at x 1) && earlier (at y 2) (at x 2))) ≡ second_taken before x y
unfolding second_taken
both_found before x y hy hx = sym (simp (ne_eqb (at y 0) 0 hy, ne_eqb (at x 0) 0 hx))

-- which of the two is taken
pub takes_second : (before : ℕ → ℕ → Bool) (x y : List ℕ) {taken : Bool} → taken ≡ second_taken before x y → taken ≡ true → y ≡ merged_part before x y
unfolding merged_part
takes_second before x y h e = sym (rw (merged_part, sym h ∙ e))

pub takes_first : (before : ℕ → ℕ → Bool) (x y : List ℕ) {taken : Bool} → taken ≡ second_taken before x y → taken ≡ false → x ≡ merged_part before x y
unfolding merged_part
takes_first before x y h e = sym (rw (merged_part, sym h ∙ e))

-- What C merges is what the two replies merged are: the arrays of two parts go to the array of their merged figures.
one_not_zero : ◌≡◌ {A = ℕ} 1 0 → ⊥
one_not_zero e = omega (arith, e)

at_zeros : (size : ℕ) → at (replicate size 0) 0 ≡ 0
at_zeros zero = refl
at_zeros (suc size) = refl

one_of_two : (size x y : ℕ) (xs ys : List ℕ) (t : Bool)
    → (elim t [ true ↦ 1 ∷ y ∷ ys | false ↦ 1 ∷ x ∷ xs ]) ≡ part_figures size (elim t [ true ↦ y ∷ ys | false ↦ x ∷ xs ])
unfolding part_figures
one_of_two size x y xs ys true = refl
one_of_two size x y xs ys false = refl

pub merged_figures_lem : (before : ℕ → ℕ → Bool) (size : ℕ) (xs ys : List ℕ)
    → merged_part before (part_figures size xs) (part_figures size ys) ≡ part_figures size (merged_figures before xs ys)
unfolding merged_figures merged_part part_figures
merged_figures_lem before size xs [] = sym (takes_first before (part_figures size xs) (replicate size 0) (second_empty before (part_figures size xs) (replicate size 0) (at_zeros size)) refl) ∙ nothing_added xs
  where
    nothing_added : (xs : List ℕ) → part_figures size xs ≡ part_figures size (merged_figures before xs [])
    nothing_added [] = refl
    nothing_added (x ∷ xs) = refl
merged_figures_lem before size [] (y ∷ ys) = sym (takes_second before (replicate size 0) (1 ∷ y ∷ ys) (first_empty before (replicate size 0) (1 ∷ y ∷ ys) one_not_zero (at_zeros size)) refl)
merged_figures_lem before size (x ∷ xs) (y ∷ ys) =
    ap (λ (t : Bool). elim t [ true ↦ 1 ∷ y ∷ ys | false ↦ 1 ∷ x ∷ xs ])
    (sym (both_found before (1 ∷ x ∷ xs) (1 ∷ y ∷ ys) one_not_zero one_not_zero))
    ∙ one_of_two size x y xs ys (before y x || (eqb y x && earlier (at ys 0) (at xs 0)))

-- the zeros of a part of a sum, a mask for each box among them
pub no_masks : (count : ℕ) → ◌≡◌ {A = List ℕ} (0 ∷ 0 ∷ 0 ∷ (take count (0 ∷ 0 ∷ 0 ∷ 0 ∷ []) ++ (0 ∷ []))) (replicate (sum_size count) 0)
no_masks zero = refl
no_masks (suc zero) = refl
no_masks (suc (suc zero)) = refl
no_masks (suc (suc (suc zero))) = refl
no_masks (suc (suc (suc (suc k)))) =
    ap (λ (ws : List ℕ). 0 ∷ 0 ∷ 0 ∷ (ws ++ (0 ∷ []))) all ∙ sym (ap (λ (ws : List ℕ). replicate (4 + length ws) 0) all)
  where
    all : ◌≡◌ {A = List ℕ} (take (suc (suc (suc (suc k)))) (0 ∷ 0 ∷ 0 ∷ 0 ∷ [])) (0 ∷ 0 ∷ 0 ∷ 0 ∷ [])
    all = take_all (suc (suc (suc (suc k)))) (0 ∷ 0 ∷ 0 ∷ 0 ∷ []) (omega arith)

-- what the lines of a merging say
pub merge_means : (x y : List ℕ) (room : ℕ)
    → Means (merge_checks x y room)
    ((3 unless_that (3 ≤ length x)) ∷ (3 unless_that (length y ≡ length x)) ∷ (4 unless_that (at x 0 ≤ 1)) ∷ (4 unless_that (at y 0 ≤ 1))
    ∷ (7 unless_that (room ≡ length x)) ∷ [])
unfolding merge_checks
merge_means x y room =
    line (at_most 3 (length x)) (λ p. line (same (length y) (length x)) (λ q. line (at_most (at x 0) 1) (λ a. line (at_most (at y 0) 1)
    (λ b. line (same room (length x)) (λ f. end)))))

-- the array of a part
zeros_at : (size k : ℕ) → at (replicate size 0) k ≡ 0
zeros_at zero k = refl
zeros_at (suc size) zero = refl
zeros_at (suc size) (suc k) = zeros_at size k

pub part_for_c : (size x : ℕ) (xs : List ℕ)
    → (part_figures size (x ∷ xs) ≡ 1 ∷ x ∷ xs) × (length (part_figures size []) ≡ size) × ((k : ℕ) → at (part_figures size []) k ≡ 0)
unfolding part_figures
part_for_c size x xs = (refl, length-replicate {A = ℕ} size 0, zeros_at size)
