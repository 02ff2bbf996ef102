-- The first largest: where all figures are 0, and after a change of the figures that keeps their order.
use mathlib.Core.Path.{◌≡◌, refl, sym, ap, ◌∙◌}
use mathlib.Core.Bool.{Bool}
use mathlib.Core.List.{List, [], ◌∷◌}
use Prim.Native.Nat.{ℕ, ◌<◌}
use native.Mathlib.Omega.{arith}
use lib.Dec.{ltb}
use Rattle.boolean.specs.Sums.{each}
use Rattle.boolean.specs.Selection.{Candidate, best, higher, first_largest, FirstIn, here, there}
use Rattle.boolean.proofs.Selection.{best_takes, best_keeps, best_step, first_largest_chooses}

-- a largest figure of 0 is the first candidate's
pub first_largest_none : (c : Candidate) (cs : List Candidate) → (first_largest (c ∷ cs)).figure ≡ 0 → first_largest (c ∷ cs) ≡ c
first_largest_none c cs z = go (first_largest_chooses.early refl) z
  where
    go : {r : Candidate} → FirstIn (λ r d. d.figure < r.figure) r (c ∷ cs) → r.figure ≡ 0 → r ≡ c
    go here e = refl
    go (there s f) e = absurd (omega arith)

-- candidates that are changed so that none gains or loses: the best is changed the same way
pub best_changed : {C D : Type 0} (beats : C → C → Bool) (beats' : D → D → Bool) (f : C → D) → ((c b : C) → beats' (f c) (f b) ≡ beats c b)
    → (b : C) (cs : List C) → best beats' (f b) (each cs (λ c. f c ∷ [])) ≡ f (best beats b cs)
unfolding best each
best_changed beats beats' f h b [] = refl
best_changed beats beats' f h b (c ∷ cs) =
    best_step beats (λ z. best beats' (f b) (f c ∷ each cs (λ c. f c ∷ [])) ≡ f z) b c cs
    (λ e. best_takes beats' (f b) (f c) (each cs (λ c. f c ∷ [])) (h c b ∙ e) ∙ best_changed beats beats' f h c cs)
    (λ e. best_keeps beats' (f b) (f c) (each cs (λ c. f c ∷ [])) (h c b ∙ e) ∙ best_changed beats beats' f h b cs)

-- a candidate with another figure
abbrev pub with_figure : (ℕ → ℕ) → Candidate → Candidate
with_figure g c = record { figure = g c.figure; witness = c.witness }

pub first_largest_changed : (g : ℕ → ℕ) → g 0 ≡ 0 → ((a b : ℕ) → ltb (g a) (g b) ≡ ltb a b)
    → (cs : List Candidate) → first_largest (each cs (λ c. with_figure g c ∷ [])) ≡ with_figure g (first_largest cs)
unfolding first_largest each
first_largest_changed g z h [] = ap (λ (k : ℕ). record { figure = k; witness = [] }) (sym z)
first_largest_changed g z h (c ∷ cs) = best_changed higher higher (with_figure g) (λ a b. h b.figure a.figure) c cs
