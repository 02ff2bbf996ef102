-- The changes of a part of the components: where the part is the whole, where it begins before its first mask within the limit, and where none lies in it.
use mathlib.Core.Path.{◌≡◌, sym, ap, ◌∙◌}
use mathlib.Core.List.{List, [], ◌∷◌}
use Prim.Native.Nat.{ℕ, ◌-◌, ◌^◌, ◌≤◌, ◌<◌}
use native.Mathlib.Nat.{le_refl}
use native.Mathlib.Omega.{arith}
use Rattle.boolean.specs.Selection.{Candidate, shown, higher, first_largest}
use Rattle.boolean.specs.Sums.{each}
use Rattle.boolean.proofs.Components.{first_mask}
use Rattle.boolean.proofs.Lists.{some_member, in_each}
use Rattle.masks.specs.Parts.{components_between, shown_best, best_between}
use Rattle.masks.specs.Masks.{FirstFrom}
use Rattle.masks.proofs.Parts.{in_between, between_from, between_none}
use Rattle.linear.proofs.Ranges.{whole_between}
use Rattle.avalanche.specs.Avalanche.{measured, measured_between, changes_of}
use Rattle.avalanche.proofs.Changes.{in_changes_of, measured_is}

-- what is shown of candidates of which there is one
pub shown_largest : {c : Candidate} {rest : List Candidate} (cs : List Candidate) → cs ≡ c ∷ rest → shown_best higher cs ≡ shown (first_largest cs)
unfolding first_largest
shown_largest cs e = ap (shown_best higher) e ∙ sym (ap (λ (l : List Candidate). shown (first_largest l)) e)

-- the part from 1 to 2^m − 1, as the code has it
pub whole_largest : (n m i j : ℕ) (figure : ℕ → ℕ → ℕ) {p : ℕ} → p ≡ 2 ^ m → measured_between n m i j 1 (p - 1) figure ≡ measured n m i j figure
unfolding measured_between
whole_largest n m i j figure e =
    ap (λ (k : ℕ). each (components_between m i 1 (k - 1)) (changes_of n j figure)) e
    ∙ ap (λ (l : List ℕ). each l (changes_of n j figure)) (whole_between m i)
    ∙ sym (measured_is n m i j figure)

-- a part of which the first mask within the limit is known
module _ (n m j : ℕ) (figure : ℕ → ℕ → ℕ) {i first start : ℕ} (last : ℕ) (from : FirstFrom i first start) where
  pub part_found : 1 ≤ n → 1 ≤ j → 1 ≤ first → last < 2 ^ m → start ≤ last
      → shown (first_largest (measured_between n m i j start last figure)) ≡ best_between higher m i first last (changes_of n j figure)
  unfolding best_between measured_between
  part_found n_low j_low low high h =
      let inside = in_between m i start last start (record { low = omega (arith, from.low); high = omega arith; few = from.few }) (le_refl start) h in
      let mem = in_each (components_between m i start last) (changes_of n j figure) start _ inside
      (in_changes_of n j figure start 1 (first_mask n j n_low j_low)) in
      let some = some_member (each (components_between m i start last) (changes_of n j figure)) mem in
      sym (shown_largest (each (components_between m i start last) (changes_of n j figure)) some.2)
      ∙ ap (λ (l : List ℕ). shown_best higher (each l (changes_of n j figure))) (sym (between_from m last from))

  pub part_nothing : last < start → [] ≡ best_between higher m i first last (changes_of n j figure)
  unfolding best_between each
  part_nothing h = sym (ap (λ (l : List ℕ). shown_best higher (each l (changes_of n j figure))) (between_none m last from h))
