-- One reply over a part has one answer, and what is merged of two whole answers is the whole answer of the merged reply. Assumes nothing.
use Rattle.std.specs.Prelude.{Result, Ok, Err, Option, Some, None}
use Rattle.refusals.specs.declared.Refusal.{Refusal}
use mathlib.Core.Path.{◌≡◌, refl, sym, ap, ap₂, ◌∙◌, subst}
use mathlib.Core.Bool.{Bool, true, false, ◌&&◌, ◌||◌}
use mathlib.Core.Logic.{◌⊎◌, inl, inr, ⊎_elim}
use mathlib.Core.List.{List, [], ◌∷◌}
use Prim.Native.Nat.{ℕ}
use native.Mathlib.Omega.{arith}
use lib.Dec.{ltb, eqb}
use Rattle.refusals.specs.Table.{Reply}
use Rattle.masks.specs.Parts.{earlier, merged_figures, merged_reply}
use Rattle.masks.proofs.Parts.{merged_nothing, merged_first, merged_second}
use Rattle.rounds.specs.Parts.{said_part_sum, PartPastZero, PartSumAnswer, SumsMerged}
use Rattle.rounds.specs.declared.NearestSum.{NearestSum}
use Rattle.refusals.proofs.Numbers.{number_one}
use Rattle.rounds.proofs.Answers.{masks_one, by_fields}

pub one_part_answer : (count : ℕ) (reply : Reply) (a b : Result (Option NearestSum) Refusal) → PartSumAnswer count a reply → PartSumAnswer count b reply → a ≡ b
one_part_answer count reply (Ok (Some x)) (Ok (Some y)) p q =
    let same = p.says ∙ sym q.says in
    let whole = masks_one count (x.w1 ∷ x.w2 ∷ x.w3 ∷ x.w4 ∷ []) (y.w1 ∷ y.w2 ∷ y.w3 ∷ y.w4 ∷ []) x.b y.b refl (cc) (p.past ∙ sym q.past) in
    let all : x.figure ∷ x.c ∷ x.w1 ∷ x.w2 ∷ x.w3 ∷ x.w4 ∷ x.b ∷ [] ≡ y.figure ∷ y.c ∷ y.w1 ∷ y.w2 ∷ y.w3 ∷ y.w4 ∷ y.b ∷ [] = cc in
    ap (λ (l : List ℕ). Ok (Some (by_fields l))) all
one_part_answer count reply (Ok (Some x)) (Ok None) p q = let z : ◌≡◌ {A = ℕ} 0 1 = cc in absurd (omega arith)
one_part_answer count reply (Ok (Some x)) (Err e) p q = let z : ◌≡◌ {A = ℕ} 0 1 = cc in absurd (omega arith)
one_part_answer count reply (Ok None) (Ok (Some x)) p q = let z : ◌≡◌ {A = ℕ} 0 1 = cc in absurd (omega arith)
one_part_answer count reply (Ok None) (Ok None) p q = refl
one_part_answer count reply (Ok None) (Err e) p q = let z : ◌≡◌ {A = ℕ} 0 1 = cc in absurd (omega arith)
one_part_answer count reply (Err e) (Ok (Some x)) p q = let z : ◌≡◌ {A = ℕ} 0 1 = cc in absurd (omega arith)
one_part_answer count reply (Err e) (Ok None) p q = let z : ◌≡◌ {A = ℕ} 0 1 = cc in absurd (omega arith)
one_part_answer count reply (Err e) (Err f) p q = ap (λ z. Err z) (number_one e f (cc))

-- read for four boxes, an answer says every field
said_whole : (a b : Result (Option NearestSum) Refusal) → said_part_sum 4 a ≡ said_part_sum 4 b → a ≡ b
said_whole a b e = one_part_answer 4 (said_part_sum 4 b) a b (record { says = e; past = none a }) (record { says = refl; past = none b })
  where
    none : (a : Result (Option NearestSum) Refusal) → PartPastZero 4 a
    none (Ok (Some x)) = refl
    none (Ok None) = tt
    none (Err e) = tt

-- so the merged answer is one of the two
one_of_two : (x y r : Result (Option NearestSum) Refusal) → SumsMerged x y r → (r ≡ x) ⊎ (r ≡ y)
unfolding merged_figures
one_of_two (Err e) y r h = inl (said_whole r (Err e) (h 4))
one_of_two (Ok None) y r h = inr (said_whole r y (h 4 ∙ merged_nothing ltb (said_part_sum 4 y)))
one_of_two (Ok (Some x)) (Err e) r h = inr (said_whole r (Err e) (h 4))
one_of_two (Ok (Some x)) (Ok None) r h = inl (said_whole r (Ok (Some x)) (h 4))
one_of_two (Ok (Some x)) (Ok (Some y)) r h = go (ltb y.figure x.figure || (eqb y.figure x.figure && earlier y.c x.c)) refl
  where
    go : (t : Bool) → (ltb y.figure x.figure || (eqb y.figure x.figure && earlier y.c x.c)) ≡ t → (r ≡ Ok (Some x)) ⊎ (r ≡ Ok (Some y))
    go true e = inr (said_whole r (Ok (Some y)) (h 4 ∙ merged_second ltb x.figure (x.c ∷ x.w1 ∷ x.w2 ∷ x.w3 ∷ x.w4 ∷ x.b ∷ []) y.figure (y.c ∷ y.w1 ∷ y.w2 ∷ y.w3 ∷ y.w4 ∷ y.b ∷ []) e))
    go false e = inl (said_whole r (Ok (Some x)) (h 4 ∙ merged_first ltb x.figure (x.c ∷ x.w1 ∷ x.w2 ∷ x.w3 ∷ x.w4 ∷ x.b ∷ []) y.figure (y.c ∷ y.w1 ∷ y.w2 ∷ y.w3 ∷ y.w4 ∷ y.b ∷ []) e))

-- and its masks past the number of boxes are 0, as theirs are
pub merged_answer : (count : ℕ) (x y r : Result (Option NearestSum) Refusal) (p q : Reply) → SumsMerged x y r → PartSumAnswer count x p → PartSumAnswer count y q
    → PartSumAnswer count r (merged_reply ltb p q)
merged_answer count x y r p q h a b = record {
  says = h count ∙ ap₂ (merged_reply ltb) a.says b.says;
  past =
      ⊎_elim (λ e. subst (PartPastZero count) (sym e) a.past) (λ e. subst (PartPastZero count) (sym e) b.past) (one_of_two x y r h);
}
