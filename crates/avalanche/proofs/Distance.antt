-- The dynamic distance: what its accepted checks say, and that it is half of the largest |r(s)|, with the same witness.
use Rattle.std.specs.Prelude.{Ok}
use mathlib.Core.Path.{◌≡◌, refl, sym, ap, ◌∙◌}
use mathlib.Core.Bool.{Bool, true, false}
use mathlib.Core.List.{List, [], ◌∷◌}
use Prim.Native.Nat.{ℕ, ◌*◌, ◌/◌, ◌^◌, ◌≤◌, ◌<◌}
use native.Mathlib.Nat.{mul-div_cancel, zero-lt-suc}
use native.Mathlib.Omega.{arith}
use borrow.Author.Tests.{lt-ltb, le-ltb, ltb-true, ltb-false}
use lib.Dec.{ltb}
use Rattle.boolean.specs.Sums.{each}
use Rattle.boolean.specs.Functions.{component}
use Rattle.boolean.specs.Selection.{Candidate, first_largest, shown}
use Rattle.boolean.proofs.Correlation.{correlation_half}
use Rattle.boolean.proofs.Kept.{each_cong, each_each}
use Rattle.boolean.proofs.FirstLargest.{with_figure, first_largest_changed}
use Rattle.refusals.specs.Table.{first, box_checks, Box}
use Rattle.refusals.proofs.Bounds.{range_low}
use Rattle.refusals.proofs.Checks.{box, passed, accepted_after}
use Rattle.masks.proofs.Gathering.{part_lies}
use Rattle.avalanche.specs.Avalanche.{shifts, at_most, changes_of, imbalance, correlated, change}
use Rattle.avalanche.specs.Calls.{distance_checks}
use Rattle.avalanche.specs.Parts.{distance_part_checks}
use Rattle.avalanche.specs.Statements.{distance_of}

-- ---- the checks
module _ (n m : ℕ) (rows : List ℕ) (i j : ℕ) (ok : first (distance_checks n m rows i j) ≡ (Ok tt)) where
  pub distance_box : Box n m rows
  unfolding distance_checks
  distance_box = box n m rows _ ok

  pub outputs_low : 1 ≤ i
  unfolding distance_checks
  outputs_low = range_low 1 m i (passed _ (accepted_after (box_checks n m rows) _ ok)).0

  pub inputs_low : 1 ≤ j
  unfolding distance_checks
  inputs_low = range_low 1 n j (passed _ (accepted_after (box_checks n m rows) _ ok)).1.0

-- over a part
pub record DistanceWithin (n m : ℕ) (rows : List ℕ) (i j low high : ℕ) : Type 0 where
  pub box : Box n m rows
  pub i_low : 1 ≤ i
  pub j_low : 1 ≤ j
  pub low_end : 1 ≤ low
  pub high_end : high < 2 ^ m

pub part_accepted : (n m : ℕ) (rows : List ℕ) (i j low high : ℕ) → first (distance_part_checks n m rows i j low high) ≡ (Ok tt)
    → DistanceWithin n m rows i j low high
unfolding distance_part_checks
part_accepted n m rows i j low high h =
    let t = part_lies (distance_checks n m rows i j) m low high h in
    record {
      box = distance_box n m rows i j t.0;
      i_low = outputs_low n m rows i j t.0;
      j_low = inputs_low n m rows i j t.0;
      low_end = t.1;
      high_end = t.3;
    }

-- ---- half of the autocorrelation
abbrev twice : ℕ → ℕ
twice k = k * 2

twice_order : (a b : ℕ) → ltb (twice a) (twice b) ≡ ltb a b
twice_order a b = go (ltb a b) refl
  where
    go : (t : Bool) → ltb a b ≡ t → ltb (a * 2) (b * 2) ≡ t
    go true e = lt-ltb (a * 2) (b * 2) (omega (arith, ltb-true a b e))
    go false e = le-ltb (a * 2) (b * 2) (omega (arith, ltb-false a b e))

-- figures changed by a rule are the list's candidates changed by it, of any components
changes_changed : (n j : ℕ) (figure : ℕ → ℕ → ℕ) (g : ℕ → ℕ) (cs : List ℕ)
    → each cs (changes_of n j (λ c s. g (figure c s))) ≡ each (each cs (changes_of n j figure)) (λ p. with_figure g p ∷ [])
unfolding changes_of each
changes_changed n j figure g cs =
    sym (each_each cs (λ c. each (at_most j (shifts n)) (λ s. change figure c s ∷ [])) (λ p. with_figure g p ∷ [])
    ∙ each_cong cs _ _ (λ c. each_each (at_most j (shifts n)) (λ s. change figure c s ∷ []) (λ p. with_figure g p ∷ [])))

-- |r(s)| is twice the distance's figure
doubled : (n : ℕ) (rows : List ℕ) (j : ℕ) (cs : List ℕ) → 1 ≤ n
    → each cs (changes_of n j (correlated n rows)) ≡ each cs (changes_of n j (λ c s. twice (distance_of n rows c s)))
unfolding changes_of imbalance
doubled n rows j cs h =
    each_cong cs _ _ (λ c. each_cong (at_most j (shifts n)) _ _
    (λ s. ap (λ (v : ℕ). record { figure = v; witness = c ∷ s ∷ [] } ∷ []) (sym (correlation_half n (component rows c) s h))))

correlation_doubled : (n : ℕ) (rows : List ℕ) (j : ℕ) (cs : List ℕ) → 1 ≤ n
    → first_largest (each cs (changes_of n j (correlated n rows))) ≡ with_figure twice (first_largest (each cs (changes_of n j (distance_of n rows))))
correlation_doubled n rows j cs h =
    ap first_largest (doubled n rows j cs h ∙ changes_changed n j (distance_of n rows) twice cs)
    ∙ first_largest_changed twice refl twice_order (each cs (changes_of n j (distance_of n rows)))

-- what the call shows
halved : (found d : Candidate) → found ≡ with_figure twice d → found.figure / 2 ∷ found.witness ≡ shown d
halved found d e =
    ap (λ (p : Candidate). p.figure / 2 ∷ p.witness) e ∙ ap (λ (k : ℕ). k ∷ d.witness) (mul-div_cancel d.figure (zero-lt-suc 1))

pub distance_shown : (n : ℕ) (rows : List ℕ) (j : ℕ) (cs : List ℕ) → 1 ≤ n → (found : Candidate) → found ≡ first_largest (each cs (changes_of n j (correlated n rows)))
    → found.figure / 2 ∷ found.witness ≡ shown (first_largest (each cs (changes_of n j (distance_of n rows))))
distance_shown n rows j cs h found e = halved found (first_largest (each cs (changes_of n j (distance_of n rows)))) (e ∙ correlation_doubled n rows j cs h)
