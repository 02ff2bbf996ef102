-- The loop over the components, and the answer that the component it finds makes. Assumes nothing.
use mathlib.Core.Path.{◌≡◌, refl, sym, ap, ap₂, ◌∙◌, subst}
use mathlib.Core.Bool.{true, false}
use mathlib.Core.Logic.{inr}
use mathlib.Core.List.Memᴰ
use mathlib.Core.List.{List, [], ◌∷◌, ◌++◌, Memᴰ}
use Prim.Native.Nat.{ℕ, ◌+◌, ◌-◌, ◌/◌, ◌<◌, ◌≤◌, ◌^◌}
use native.Mathlib.Omega.{arith}
use borrow.Author.Tests.{lt-ltb}
use lib.ListN.{length, take}
use Rattle.boolean.specs.Sums.{each}
use Rattle.boolean.specs.Functions.{at}
use Rattle.boolean.specs.Selection.{Candidate, best, higher, first_largest, ranked}
use Rattle.boolean.proofs.FirstLargest.{best_changed}
use Rattle.boolean.proofs.Selection.{best_takes, best_keeps, largest, by_largest}
use Rattle.masks.specs.Masks.{outputs, Next}
use Rattle.masks.specs.Parts.{components_between}
use Rattle.masks.specs.Work.{preferred}
use Rattle.masks.proofs.Fewest.{swept, ranked_wins, higher_test}
use Rattle.masks.proofs.Parts.{visit_part}
use Rattle.masks.proofs.Sweeps.{ChoosingFrom, choosing_next, choosing_ends}
use Rattle.linear.specs.Lent.{PartSwept}
use Rattle.rounds.specs.Round.{Summand, inputs_of, sum_nonlinearity}
use Rattle.rounds.specs.Spectra.{product, peak_places, by_spectra, larger, factored, largest_product}
use Rattle.rounds.specs.Work.{found_candidate, WitnessOf}
use Rattle.rounds.specs.declared.Witness.{Witness}
use Rattle.rounds.specs.declared.Found.{Found}
use Rattle.rounds.proofs.Peaks.{peaks_positive}
use Rattle.rounds.proofs.Spectra.{places_peaks, product_is, spectra_half}
use Rattle.rounds.proofs.Theorems.{by_spectra_lem, product_reached}

-- ---- the loop over the components
-- what no component has: the product 0
abbrev pub start : Found
start = record { size = 0; c = 0 }

abbrev alone : List Summand → ℕ → List Candidate
alone ss c = factored ss c ∷ []

abbrev pub Sweeping : (ss : List Summand) (first last m i : ℕ) (found : Found) (c : ℕ) → Type 0
Sweeping ss first last m i found c = ChoosingFrom first (last + 1) (ranked higher outputs) (alone ss) m i (found_candidate start) (found_candidate found) c

-- no component has the product 0
product_positive : (ss : List Summand) (c : ℕ) → 0 < product ss c
product_positive ss c = omega (arith, product_is ss c, peaks_positive ss c (peak_places ss c) (places_peaks ss c))

module _ (ss : List Summand) (first last : ℕ) {m i : ℕ} where
  module _ {found : Found} {c : ℕ} (t : Sweeping ss first last m i found c) where
    module _ {size r mask : ℕ} (e : size ≡ product ss c) (q : mask ≡ c) (l : c < last + 1) (after : Next i c r) where
      -- the code's test is the selection's
      tested : preferred found.size size mask found.c ≡ ranked higher outputs (factored ss c) (found_candidate found)
      tested = higher_test (factored ss c) (found_candidate found) e q

      -- a component that is preferred, and one that is not
      pub sweep_takes : preferred found.size size mask found.c ≡ true → Sweeping ss first last m i (record { size = size; c = mask }) r
      unfolding best
      sweep_takes h =
          choosing_next t l after
          (ap₂ (λ (k d : ℕ). record { figure = k; witness = d ∷ [] }) e q
          ∙ sym (best_takes (ranked higher outputs) (found_candidate found) (factored ss c) [] (sym tested ∙ h)))

      pub sweep_keeps : preferred found.size size mask found.c ≡ false → Sweeping ss first last m i found r
      unfolding best
      sweep_keeps h = choosing_next t l after (sym (best_keeps (ranked higher outputs) (found_candidate found) (factored ss c) [] (sym tested ∙ h)))

    pub sweep_ends : last + 1 ≤ c → PartSwept m i first last → found_candidate found ≡ largest_product ss (components_between m i first last)
    unfolding largest_product first_largest
    sweep_ends h p =
        choosing_ends t h
        ∙ swept largest by_largest (visit_part m i first last t.part p.few p.some) (record { names = λ c. refl })
        (inr (ranked_wins higher outputs (factored ss first) (found_candidate start) (lt-ltb 0 (product ss first) (product_positive ss first))))

-- ---- the answer
-- the component that was found, of those in cs, is the one whose spectra give the first pair that differs at the fewest inputs
pub record Chosen (ss : List Summand) (cs : List ℕ) (found : Found) : Type 0 where
  pub member : Memᴰ found.c cs
  pub size_is : found.size ≡ product ss found.c
  pub least : by_spectra ss found.c ≡ sum_nonlinearity ss cs

pub chosen : (ss : List Summand) → 1 ≤ inputs_of ss → (cs : List ℕ) (x : ℕ) → Memᴰ x cs → (found : Found) → found_candidate found ≡ largest_product ss cs → Chosen ss cs found
unfolding largest_product first_largest each
chosen ss some [] x m found h = absurd (Memᴰ.not-nil m)
chosen ss some (c ∷ cs) x m found h =
    let e = h ∙ best_changed (larger ss) higher (factored ss) (λ a b. refl) c cs in
    let mask : found.c ≡ best (larger ss) c cs = ap (λ (p : Candidate). at p.witness 0) e in
    record {
      member = subst (λ (d : ℕ). Memᴰ d (c ∷ cs)) (sym mask) (product_reached ss some c cs);
      size_is = ap (λ (p : Candidate). p.figure) e ∙ ap (product ss) (sym mask);
      least = ap (by_spectra ss) mask ∙ sym (by_spectra_lem ss some c cs);
    }

module _ {ss : List Summand} {cs : List ℕ} {found : Found} (h : Chosen ss cs found) (some : 1 ≤ inputs_of ss) where
  -- its product is within 2^N
  pub size_within : found.size ≤ 2 ^ inputs_of ss
  size_within = omega (arith, h.size_is, spectra_half ss some found.c)

  -- what the answer shows
  pub answer_is : {figure : ℕ} {t : Witness} → figure ≡ 2 ^ (inputs_of ss - 1) - found.size / 2 → WitnessOf ss found.c t
      → record { figure = figure; witness = found.c ∷ (take (length ss) t.masks ++ (t.b ∷ [])) } ≡ sum_nonlinearity ss cs
  answer_is e w =
      ap₂ (λ (k : ℕ) (l : List ℕ). record { figure = k; witness = found.c ∷ l }) (e ∙ ap (λ (k : ℕ). 2 ^ (inputs_of ss - 1) - k / 2) h.size_is)
      (ap₂ (λ (l : List ℕ) (b : ℕ). l ++ (b ∷ [])) w.masks_are w.sign_is)
      ∙ h.least
