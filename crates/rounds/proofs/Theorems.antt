-- The nonlinearity of a sum of boxes: the least distance over all 2^N inputs, reached, the first; by the boxes' spectra; and as the nonlinearity of a box.
use mathlib.Core.Path.{◌≡◌, refl, sym, ap, ◌∙◌, subst}
use mathlib.Core.Bool.{Bool, true, false}
use mathlib.Core.List.Memᴰ
use mathlib.Core.List.{List, [], ◌∷◌, ◌++◌, Memᴰ}
use Prim.Native.Nat.{ℕ, suc, ◌+◌, ◌^◌, ◌<◌, ◌≤◌}
use native.Mathlib.Omega.{arith}
use borrow.Author.Tests.{ltb-true, ltb-false, lt-ltb}
use Rattle.boolean.specs.Sums.{each}
use Rattle.boolean.specs.Selection.{Candidate, best, lower, first_least, FirstIn}
use Rattle.boolean.proofs.FirstLargest.{best_changed}
use Rattle.boolean.proofs.Lists.{mem_each, in_each}
use Rattle.boolean.proofs.Selection.{best_all, best_mem, best_step, best_append, first_least_chooses}
use Rattle.rounds.specs.Round.{Summand, inputs_of, sum_distance, sum_pair, sum_pairs_of, sum_pairs, sum_nonlinearity}
use Rattle.boolean.specs.Statements.{Ordered}
use Rattle.rounds.specs.Spectra.{product, by_spectra, larger}
use Rattle.rounds.specs.Statements.{MasksFit}
use Rattle.rounds.proofs.Masks.{apart, apart_fits, joined_apart}
use Rattle.rounds.proofs.Nearest.{in_sum_pairs_of, mem_sum_pairs_of, nearest_in, nearest_taken, nearest_kept}
use Rattle.rounds.proofs.Spectra.{places_peaks, spectra_half, spectra_nearest}

-- ---- lists that have one candidate each that decides
module _ {A : Type 0} (f : A → List Candidate) (g : A → Candidate)
    (taken : (x : A) (b : Candidate) → (g x).figure < b.figure → best lower b (f x) ≡ g x)
    (kept : (x : A) (b : Candidate) → b.figure ≤ (g x).figure → best lower b (f x) ≡ b) where
  pub best_each : (b : Candidate) (xs : List A) → best lower b (each xs f) ≡ best lower b (each xs (λ x. g x ∷ []))
  unfolding each best
  best_each b [] = refl
  best_each b (x ∷ xs) =
      best_append lower b (f x) (each xs f)
      ∙ best_step lower (λ z. best lower (best lower b (f x)) (each xs f) ≡ z) b (g x) (each xs (λ x. g x ∷ []))
      (λ e. ap (λ (c : Candidate). best lower c (each xs f)) (taken x b (ltb-true _ _ e)) ∙ best_each (g x) xs)
      (λ e. ap (λ (c : Candidate). best lower c (each xs f)) (kept x b (ltb-false _ _ e)) ∙ best_each b xs)

  -- where the first list is not empty
  first_least_each : (x : A) (xs : List A) → Memᴰ (g x) (f x) → first_least (each (x ∷ xs) f) ≡ best lower (g x) (each xs (λ x. g x ∷ []))
  unfolding each
  first_least_each x xs m = go (f x) m (taken x) ∙ best_each (g x) xs
    where
      go : (l : List Candidate) → Memᴰ (g x) l → ((b : Candidate) → (g x).figure < b.figure → best lower b l ≡ g x)
          → first_least (l ++ each xs f) ≡ best lower (g x) (each xs f)
      go [] m t = absurd (Memᴰ.not-nil m)
      go (p ∷ ps) m t =
          let start : Candidate = record { figure = suc (p.figure + (g x).figure); witness = [] } in
          first_least_chooses.append p ps (each xs f)
          ∙ ap (λ (c : Candidate). best lower c (each xs f)) (sym (first_least_chooses.from start p ps (lt-ltb p.figure start.figure (omega arith))) ∙ t start (omega arith))

-- ---- the least distance, reached, and the first
module _ (ss : List Summand) (cs : List ℕ) where
  -- every component in cs differs from every affine function of N inputs at so many inputs or more
  pub least : (c v b : ℕ) → Memᴰ c cs → v < 2 ^ inputs_of ss → b < 2 → (sum_nonlinearity ss cs).figure ≤ sum_distance ss c v b
  unfolding sum_nonlinearity sum_pairs
  least c v b m l h =
      subst (λ (z : ℕ). (sum_nonlinearity ss cs).figure ≤ sum_distance ss c z b) (joined_apart ss v l)
      (first_least_chooses.all (sum_pairs ss cs) (sum_pair ss c (apart ss v) b)
      (in_each cs (sum_pairs_of ss) c (sum_pair ss c (apart ss v) b) m (in_sum_pairs_of ss c (apart ss v) b (apart_fits ss v) h)))

  -- what stands in the list of pairs
  pub mem_sum_pairs : (p : Candidate) → Memᴰ p (sum_pairs ss cs)
      → (c : ℕ) × (ws : List ℕ) × (b : ℕ) × Memᴰ c cs × MasksFit ss ws × (b < 2) × (p ≡ sum_pair ss c ws b)
  unfolding sum_pairs
  mem_sum_pairs p m =
      let t = mem_each cs (sum_pairs_of ss) p m in
      let u = mem_sum_pairs_of ss t.0 p t.2 in
      (t.0, u.0, u.1, t.1, u.2, u.3, u.4)

  -- where there is a component, some pair does so at exactly that many, and each pair before it in the list at more
  module _ (c : ℕ) (some : Memᴰ c cs) where
    first_in : (l : List Candidate) → (p : Candidate) → Memᴰ p l → Memᴰ (first_least l) l × FirstIn (λ r q. r.figure < q.figure) (first_least l) l
    first_in [] p m = absurd (Memᴰ.not-nil m)
    first_in (q ∷ qs) p m = (first_least_chooses.mem refl, first_least_chooses.early refl)

    one_pair : Memᴰ (sum_pair ss c (apart ss 0) 0) (sum_pairs ss cs)
    unfolding sum_pairs
    one_pair = in_each cs (sum_pairs_of ss) c (sum_pair ss c (apart ss 0) 0) some (in_sum_pairs_of ss c (apart ss 0) 0 (apart_fits ss 0) (omega arith))

    pub reached : (c : ℕ) × (ws : List ℕ) × (b : ℕ) × Memᴰ c cs × MasksFit ss ws × (b < 2) × (sum_nonlinearity ss cs ≡ sum_pair ss c ws b)
    unfolding sum_nonlinearity
    reached = mem_sum_pairs (sum_nonlinearity ss cs) (first_in (sum_pairs ss cs) (sum_pair ss c (apart ss 0) 0) one_pair).0

    pub first : FirstIn (λ r q. r.figure < q.figure) (sum_nonlinearity ss cs) (sum_pairs ss cs)
    unfolding sum_nonlinearity
    first = (first_in (sum_pairs ss cs) (sum_pair ss c (apart ss 0) 0) one_pair).1

-- ---- by the boxes' spectra
module _ (ss : List Summand) (some : 1 ≤ inputs_of ss) where
  pub spectra_in : (c : ℕ) → Memᴰ (by_spectra ss c) (sum_pairs_of ss c)
  spectra_in c = subst (λ (p : Candidate). Memᴰ p (sum_pairs_of ss c)) (sym (spectra_nearest ss some c)) (nearest_in ss c _ (places_peaks ss c))

  pub spectra_taken : (c : ℕ) (b : Candidate) → (by_spectra ss c).figure < b.figure → best lower b (sum_pairs_of ss c) ≡ by_spectra ss c
  spectra_taken c b h =
      let e = spectra_nearest ss some c in
      nearest_taken ss c _ (places_peaks ss c) b (omega (arith, ap (λ (p : Candidate). p.figure) e)) ∙ sym e

  pub spectra_kept : (c : ℕ) (b : Candidate) → b.figure ≤ (by_spectra ss c).figure → best lower b (sum_pairs_of ss c) ≡ b
  spectra_kept c b h = nearest_kept ss c _ (places_peaks ss c) b (omega (arith, ap (λ (p : Candidate). p.figure) (spectra_nearest ss some c)))

  -- a smaller figure is a larger product
  lower_larger : (c b : ℕ) → lower (by_spectra ss c) (by_spectra ss b) ≡ larger ss c b
  lower_larger c b =
      go (lower (by_spectra ss c) (by_spectra ss b)) (larger ss c b) (ltb-true _ _) (ltb-false _ _) (ltb-true _ _) (ltb-false _ _)
    where
      go : (x y : Bool)
          → (x ≡ true → (by_spectra ss c).figure < (by_spectra ss b).figure) → (x ≡ false → (by_spectra ss b).figure ≤ (by_spectra ss c).figure)
          → (y ≡ true → product ss b < product ss c) → (y ≡ false → product ss c ≤ product ss b) → x ≡ y
      go true true p q r s = refl
      go true false p q r s = absurd (omega (arith, p refl, s refl, spectra_half ss some c, spectra_half ss some b))
      go false true p q r s = absurd (omega (arith, q refl, r refl, spectra_half ss some c, spectra_half ss some b))
      go false false p q r s = refl

  -- the first component of the largest product decides: its first largest magnitudes are the witness
  pub by_spectra_lem : (c : ℕ) (cs : List ℕ) → sum_nonlinearity ss (c ∷ cs) ≡ by_spectra ss (best (larger ss) c cs)
  unfolding sum_nonlinearity sum_pairs
  by_spectra_lem c cs =
      first_least_each (sum_pairs_of ss) (by_spectra ss) spectra_taken spectra_kept c cs (spectra_in c)
      ∙ best_changed (larger ss) lower (by_spectra ss) lower_larger c cs

  -- no component has a larger product than the one that decides
  pub ordered : Ordered (larger ss) (λ a b. product ss b ≤ product ss a) (λ a b. product ss b < product ss a)
  ordered = omega (arith, ltb-true, ltb-false)

  pub largest_product_lem : (c : ℕ) (cs : List ℕ) (d : ℕ) → Memᴰ d (c ∷ cs) → product ss d ≤ product ss (best (larger ss) c cs)
  largest_product_lem c cs d m = best_all ordered c cs d m

  pub product_reached : (c : ℕ) (cs : List ℕ) → Memᴰ (best (larger ss) c cs) (c ∷ cs)
  product_reached c cs = best_mem (larger ss) c cs
