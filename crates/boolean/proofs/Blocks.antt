-- The first best of candidates that come in blocks is the first best of the blocks' own first bests. Assumes nothing.
use mathlib.Core.Path.{◌≡◌, refl, sym, ap, ◌∙◌}
use mathlib.Core.Bool.{Bool, true, false}
use mathlib.Core.List.{List, [], ◌∷◌, ◌++◌}
use Rattle.boolean.specs.Sums.{each}
use Rattle.boolean.specs.Selection.{Candidate, best, first_best, FirstIn, here, there}
use Rattle.boolean.specs.Statements.{Ordered, ByFigure}
use Rattle.boolean.proofs.Selection.{best_takes, best_keeps, best_append, best_stays, best_is, best_all, best_first}

-- the first best of one block
abbrev pub leader : {A : Type 0} → (Candidate → Candidate → Bool) → (A → List Candidate) → A → List Candidate
leader beats rule k = first_best beats (rule k) ∷ []

module _ {beats : Candidate → Candidate → Bool} {R S : Candidate → Candidate → Type 0} (o : Ordered beats R S) (f : ByFigure R S) where
  -- what is better beats, and what is not does not
  beats_better : (a b : Candidate) → S a b → beats a b ≡ true
  beats_better a b s = go (beats a b) refl
    where
      go : (t : Bool) → beats a b ≡ t → t ≡ true
      go true e = refl
      go false e = absurd (f.strict a b s (o.loses a b e))

  beats_not : (a b : Candidate) → R b a → beats a b ≡ false
  beats_not a b r = go (beats a b) refl
    where
      go : (t : Bool) → beats a b ≡ t → t ≡ false
      go true e = absurd (f.strict a b (o.wins a b e) r)
      go false e = refl

  -- one block after a candidate
  best_block : (b x : Candidate) (xs : List Candidate) → best beats b (x ∷ xs) ≡ best beats b (best beats x xs ∷ [])
  unfolding best
  best_block b x xs = go (beats r b) refl
    where
      r : Candidate
      r = best beats x xs

      beaten : {z : Candidate} {cs : List Candidate} → FirstIn S z cs → FirstIn (λ a c. beats a c ≡ true) z cs
      beaten here = here
      beaten {z} (there {c} s h) = there (beats_better z c s) (beaten h)

      go : (t : Bool) → beats r b ≡ t → best beats b (x ∷ xs) ≡ best beats b (r ∷ [])
      go true e =
          best_is beats b r e (beaten (best_first o x xs)) (λ c m. beats_not c r (best_all o x xs c m)) ∙ sym (best_takes beats b r [] e)
      go false e =
          best_stays beats b (x ∷ xs) (λ c m. beats_not c b (o.trans b r c (o.loses r b e) (best_all o x xs c m))) ∙ sym (best_keeps beats b r [] e)

  module _ {A : Type 0} (rule : A → List Candidate) (some : (k : A) → (x : Candidate) × (xs : List Candidate) × (rule k ≡ x ∷ xs)) where
    best_blocks : (b : Candidate) (ks : List A) → best beats b (each ks rule) ≡ best beats b (each ks (leader beats rule))
    unfolding each
    best_blocks b [] = refl
    best_blocks b (k ∷ ks) =
        best_append beats b (rule k) (each ks rule)
        ∙ ap (λ (z : Candidate). best beats z (each ks rule)) (block (some k))
        ∙ best_blocks (best beats b (leader beats rule k)) ks
        ∙ sym (best_append beats b (leader beats rule k) (each ks (leader beats rule)))
      where
        block : (x : Candidate) × (xs : List Candidate) × (rule k ≡ x ∷ xs) → best beats b (rule k) ≡ best beats b (leader beats rule k)
        block s = ap (best beats b) s.2 ∙ best_block b s.0 s.1 ∙ ap (λ (l : List Candidate). best beats b (first_best beats l ∷ [])) (sym s.2)

    pub first_blocks : (ks : List A) → first_best beats (each ks rule) ≡ first_best beats (each ks (leader beats rule))
    unfolding each
    first_blocks [] = refl
    first_blocks (k ∷ ks) =
        let s = some k in
        ap (λ (l : List Candidate). first_best beats (l ++ each ks rule)) s.2
        ∙ best_append beats s.0 s.1 (each ks rule)
        ∙ ap (λ (l : List Candidate). best beats (first_best beats l) (each ks rule)) (sym s.2)
        ∙ best_blocks (first_best beats (rule k)) ks
