-- The first best of candidates in order: of those that are as good, the one that comes first.
use Rattle.std.specs.Prelude.{ℕ, ◌<◌, Bool, true, false, ◌&&◌, ◌||◌, ◌↔◌, ltb, eqb}
use mathlib.Core.List.{List, [], ◌∷◌, Memᴰ}

-- a figure, and the numbers that reach it
pub record Candidate : Type 0 where
  pub figure : ℕ
  pub witness : List ℕ

-- what a reply gives of a candidate: the figure, then its witness
abbrev pub shown : Candidate → List ℕ
shown c = c.figure ∷ c.witness

module _ {C : Type 0} (beats : C → C → Bool) where
  -- the candidate b, or the last one that beat all before it. (The recursion stands inside the cases, so that it computes one of them.)
  unfoldable pub best : (b : C) (cs : List C) → C
  best b [] = b
  best b (c ∷ cs) = elim (beats c b) [ true ↦ best c cs | false ↦ best b cs ]

abbrev pub lower : (c b : Candidate) → Bool
lower c b = ltb c.figure b.figure

abbrev pub higher : (c b : Candidate) → Bool
higher c b = ltb b.figure c.figure

-- of no candidates: the figure 0, with no witness
abbrev pub nothing : Candidate
nothing = record { figure = 0; witness = [] }

-- the first best by a comparison, the last one that beat all before it
abbrev pub first_best : (beats : Candidate → Candidate → Bool) (cs : List Candidate) → Candidate
first_best beats [] = nothing
first_best beats (c ∷ cs) = best beats c cs

-- the first candidate of the least figure
unfoldable pub first_least : List Candidate → Candidate
unfolding best
first_least cs = first_best lower cs

-- the first candidate of the largest figure
unfoldable pub first_largest : List Candidate → Candidate
unfolding best
first_largest cs = first_best higher cs

-- c beats b, or has the same figure and a lower rank: with a rank of its own for each candidate, the order of visiting does not matter
abbrev pub ranked : (beats : Candidate → Candidate → Bool) (rank : Candidate → ℕ) (c b : Candidate) → Bool
ranked beats rank c b = beats c b || (eqb c.figure b.figure && ltb (rank c) (rank b))

-- What the laws of a selection and the theorems on figures say; no contract needs it.

-- the ranks rise along a list
abbrev pub Ascending : {C : Type 0} (rank : C → ℕ) (cs : List C) → Type 0
Ascending rank [] = Unit {0}
Ascending {C} rank (c ∷ cs) = ((d : C) → Memᴰ d cs → rank c < rank d) × Ascending rank cs

-- the same members, in any order, once or more often
abbrev pub SameMembers : {C : Type 0} (xs ys : List C) → Type 0
SameMembers {C} xs ys = (x : C) → Memᴰ x xs ↔ Memᴰ x ys

-- r stands in the list, and S holds of it and each candidate before it
pub data FirstIn {C : Type 0} (S : C → C → Type 0) (r : C) : List C → Type 0 where
  here : {cs : List C} → FirstIn S r (r ∷ cs)
  there : {c : C} {cs : List C} → S r c → FirstIn S r cs → FirstIn S r (c ∷ cs)
