-- The components within the limit one after the other: the best change so far, and what the arrays hold. Assumes nothing.
use mathlib.Core.Path.{◌≡◌, refl, sym, ap, ◌∙◌}
use mathlib.Core.List.{List, [], ◌∷◌}
use Prim.Native.Nat.{ℕ, ◌+◌, ◌≤◌}
use lib.IntN.{ℤ}
use Rattle.boolean.specs.Selection.{Candidate, higher, first_largest, ranked}
use Rattle.boolean.proofs.FirstLargest.{first_largest_none}
use Rattle.masks.specs.Masks.{outputs}
use Rattle.masks.proofs.Fewest.{largest_visited}
use Rattle.masks.proofs.Parts.{visit_part}
use Rattle.masks.proofs.Sweeps.{SweepingFrom, sweep_ends}
use Rattle.linear.specs.Lent.{PartSwept}
use Rattle.avalanche.specs.Avalanche.{measured_between, correlated, change, changes_of}
use Rattle.avalanche.proofs.Changes.{changes_of_first}
use Rattle.avalanche.proofs.Widest.{blocks}

-- the figure 0 with the witness of a component's first candidate
abbrev pub start_at : ℕ → Candidate
start_at c = record { figure = 0; witness = c ∷ 1 ∷ [] }

-- of a component whose figure is 0 that is the first largest
first_none : (n : ℕ) (rows : List ℕ) (j c : ℕ) → 1 ≤ n → 1 ≤ j → (first_largest (changes_of n j (correlated n rows) c)).figure ≡ 0
    → first_largest (changes_of n j (correlated n rows) c) ≡ start_at c
first_none n rows j c ln lj z =
    let t = changes_of_first n j (correlated n rows) c ln lj in
    let p = change (correlated n rows) c 1 in
    let is : first_largest (changes_of n j (correlated n rows) c) ≡ p
    = ap first_largest t.1 ∙ first_largest_none p t.0 (sym (ap (λ (l : List Candidate). (first_largest l).figure) t.1) ∙ z) in
    is ∙ ap (λ (k : ℕ). record { figure = k; witness = c ∷ 1 ∷ [] }) (sym (ap (λ (p : Candidate). p.figure) is) ∙ z)

abbrev pub widest_of : ℕ → List ℕ → ℕ → ℕ → List Candidate
widest_of n rows j c = first_largest (changes_of n j (correlated n rows) c) ∷ []

-- from the figure 0 with the first candidate's witness, it ends with the first of the largest changes of its part
pub widest_swept : (j : ℕ) {n m : ℕ} {rows : List ℕ} {i first last : ℕ} {found : Candidate} {table : List ℕ} {values : List ℤ} {before c : ℕ}
    → PartSwept m i first last
    → SweepingFrom first (last + 1) (ranked higher outputs) (widest_of n rows j) n m rows i (start_at first) found table values before c
    → last + 1 ≤ c → 1 ≤ j → found ≡ first_largest (measured_between n m i j first last (correlated n rows))
unfolding measured_between
widest_swept j {n} {m} {rows} {i} {first} {last} p t h j_low =
    let b = t.box in
    sweep_ends t h
    ∙ largest_visited (blocks n j (correlated n rows) b.n_low j_low) (visit_part m i first last t.choosing.part p.few p.some) (start_at first) refl
    (first_none n rows j first b.n_low j_low)
