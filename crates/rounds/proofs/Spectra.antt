-- What the boxes' spectra give for one component is the first of its nearest pairs.
use mathlib.Core.Path.{◌≡◌, refl, sym, ap, ap₂, ◌∙◌, subst}
use mathlib.Core.List.Memᴰ
use mathlib.Core.List.{List, [], ◌∷◌, ◌++◌, Memᴰ}
use Prim.Native.Nat.{ℕ, zero, suc, ◌+◌, ◌*◌, ◌-◌, ◌^◌, ◌<◌, ◌≤◌}
use native.Mathlib.Nat.{mul-le-mul, two-pow-succ}
use native.Mathlib.Omega.{arith}
use lib.Pow.{pow_pos}
use lib.Bits.{bit_xor}
use lib.IntN.{ℤ, pos, negsuc, ◌*ℤ◌, neg_ℤ, nat_abs}
use Rattle.boolean.specs.Sums.{list_below}
use Rattle.boolean.specs.Functions.{at, sign_bit}
use Rattle.boolean.specs.Selection.{Candidate, first_largest, FirstIn}
use Rattle.boolean.proofs.Lists.{mem_list_below, in_list_below, ascending_list_below}
use Rattle.boolean.proofs.Selection.{first_largest_chooses, first_ranked}
use Rattle.rounds.specs.Round.{Summand, inputs_of}
use Rattle.rounds.specs.Spectra.{peak, product, peak_places, sign_at, by_spectra}
use Rattle.rounds.specs.Statements.{walsh_of, product_at}
use Rattle.rounds.proofs.Peaks.{size_of, size_at, Peak, Peaks, peak_positive, peaks_positive, size_next}
use Rattle.rounds.proofs.Nearest.{nearest, nearest_half}

-- ---- one box
module _ (s : Summand) (c : ℕ) where
  abbrev value_of : ℕ → Candidate
  value_of w = record { figure = size_of s c w; witness = w ∷ [] }

  abbrev values : List Candidate
  values = list_below (2 ^ s.inputs) value_of

  abbrev Before : Candidate → Candidate → Type 0
  Before r q = q.figure < r.figure

  -- the first largest value
  found : (l : List Candidate) → Memᴰ (value_of 0) l → Memᴰ (first_largest l) l × FirstIn Before (first_largest l) l
  found [] m = absurd (Memᴰ.not-nil m)
  found (p ∷ ps) m = (first_largest_chooses.mem refl, first_largest_chooses.early refl)

  pub peak_is : (w : ℕ) × (peak s c ≡ value_of w) × Peak s c w
  unfolding peak
  peak_is =
      let t = found values (in_list_below (2 ^ s.inputs) value_of 0 (pow_pos s.inputs)) in
      let u = mem_list_below (2 ^ s.inputs) value_of (first_largest values) t.0 in
      let same : (first_largest values).figure ≡ size_of s c u.0 = ap (λ (p : Candidate). p.figure) u.2 in
      let place : at (first_largest values).witness 0 ≡ u.0 = ap (λ (p : Candidate). at p.witness 0) u.2 in (
        u.0,
        u.2,
        record {
          inside = u.1;
          bounds = λ v l. omega (arith, first_largest_chooses.all values (value_of v) (in_list_below (2 ^ s.inputs) value_of v l));
          first = λ v l.
              let h = first_ranked (λ p. at p.witness 0) Before (ascending_list_below (λ p. at p.witness 0) (2 ^ s.inputs) value_of (λ a b j k. j)) t.1
              (value_of v) (in_list_below (2 ^ s.inputs) value_of v (omega (arith, u.1))) (omega arith) in
              omega arith;
        },
      )

  pub place_peak : Peak s c (at (peak s c).witness 0)
  place_peak = let t = peak_is in subst (Peak s c) (sym (ap (λ (p : Candidate). at p.witness 0) t.1)) t.2

  pub peak_size : (peak s c).figure ≡ size_of s c (at (peak s c).witness 0)
  peak_size = let t = peak_is in rw t.1 refl

-- ---- all boxes
pub places_peaks : (ss : List Summand) (c : ℕ) → Peaks ss c (peak_places ss c)
unfolding peak_places
places_peaks [] c = tt
places_peaks (s ∷ ss) c = (place_peak s c, places_peaks ss c)

pub product_is : (ss : List Summand) (c : ℕ) → product ss c ≡ size_at ss c (peak_places ss c)
unfolding product peak_places product_at
product_is [] c = refl
product_is (s ∷ ss) c = ap₂ (λ (a b : ℕ). a * b) (peak_size s c) (product_is ss c) ∙ sym (size_next s ss c (at (peak s c).witness 0) (peak_places ss c))

-- ---- the sign of a product
sign_below : (m : ℕ) → 0 < m → sign_bit (neg_ℤ (pos m)) ≡ 1
unfolding sign_bit
sign_below zero h = absurd (omega arith)
sign_below (suc m) h = refl

sign_product : (a b : ℤ) → 0 < nat_abs a → 0 < nat_abs b → sign_bit (a *ℤ b) ≡ bit_xor (sign_bit a) (sign_bit b)
unfolding sign_bit
sign_product (pos zero) b h k = absurd (omega arith)
sign_product (pos (suc a)) (pos b) h k = refl
sign_product (pos (suc a)) (negsuc b) h k = sign_below (suc a * suc b) (mul-le-mul h k)
sign_product (negsuc a) (pos zero) h k = absurd (omega arith)
sign_product (negsuc a) (pos (suc b)) h k = sign_below (suc a * suc b) (mul-le-mul h k)
sign_product (negsuc a) (negsuc b) h k = refl

pub sign_is : (ss : List Summand) (c : ℕ) (ws : List ℕ) → Peaks ss c ws → sign_bit (product_at ss c ws) ≡ sign_at ss c ws
unfolding product_at sign_at sign_bit
sign_is [] c [] h = refl
sign_is [] c (w ∷ ws) h = absurd h
sign_is (s ∷ ss) c [] h = absurd h
sign_is (s ∷ ss) c (w ∷ ws) h =
    sign_product (walsh_of s c w) (product_at ss c ws) (peak_positive s c w h.0) (peaks_positive ss c ws h.1)
    ∙ ap (bit_xor (sign_bit (walsh_of s c w))) (sign_is ss c ws h.1)

-- ---- so the spectra give the nearest pair
module _ (ss : List Summand) (some : 1 ≤ inputs_of ss) (c : ℕ) where
  doubled : 2 ^ inputs_of ss ≡ 2 * 2 ^ (inputs_of ss - 1)
  doubled = let e : inputs_of ss ≡ suc (inputs_of ss - 1) = omega arith in ap (λ (k : ℕ). 2 ^ k) e ∙ omega (arith, two-pow-succ (inputs_of ss - 1))

  -- twice the figure and the product make 2^N
  pub spectra_half : 2 * (by_spectra ss c).figure + product ss c ≡ 2 ^ inputs_of ss
  spectra_half = omega (arith, doubled, product_is ss c, nearest_half ss c (peak_places ss c) (places_peaks ss c))

  pub spectra_nearest : by_spectra ss c ≡ nearest ss c (peak_places ss c) (places_peaks ss c)
  spectra_nearest =
      let same : (by_spectra ss c).figure ≡ (nearest ss c (peak_places ss c) (places_peaks ss c)).figure = omega (arith, spectra_half, product_is ss c, nearest_half ss c (peak_places ss c) (places_peaks ss c)) in
      ap₂ (λ (d b : ℕ). record { figure = d; witness = c ∷ (peak_places ss c ++ (b ∷ [])) }) same (sym (sign_is ss c (peak_places ss c) (places_peaks ss c)))
