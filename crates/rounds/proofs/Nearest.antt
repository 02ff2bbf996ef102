-- The best pair of one component of a sum: the boxes' own first largest magnitudes, with the sign of their product.
use mathlib.Core.Path.{◌≡◌, refl, ap, subst}
use mathlib.Core.List.Memᴰ
use mathlib.Core.List.{List, [], ◌∷◌, Memᴰ}
use Prim.Native.Nat.{ℕ, ◌+◌, ◌*◌, ◌^◌, ◌<◌, ◌≤◌}
use native.Mathlib.Nat.{zero-lt-suc, le_refl}
use native.Mathlib.Omega.{arith}
use borrow.Author.Tests.{lt-ltb, le-ltb}
use lib.IntN.{ℤ, pos, negsuc, nat_abs}
use Rattle.boolean.specs.Functions.{component, distance, walsh, sign_bit}
use Rattle.boolean.specs.Selection.{Candidate, best, lower, FirstIn, here, there}
use Rattle.boolean.proofs.Digits.{component_lt}
use Rattle.boolean.proofs.Distances.{walsh_pos, walsh_negsuc, distance_walsh}
use Rattle.boolean.proofs.Dots.{bit_cases}
use Rattle.boolean.proofs.Lists.{mem_each, in_each}
use Rattle.boolean.proofs.Selection.{of_cons, best_stays, best_is}
use Rattle.rounds.specs.Round.{Summand, inputs_of, sum_rows, masks_of_inputs, joined, sum_pair, sum_pairs_of}
use Rattle.rounds.proofs.Firsts.{first_weaken, first_each}
use Rattle.rounds.specs.Statements.{MasksFit, product_at}
use Rattle.rounds.proofs.Masks.{mem_masks, in_masks}
use Rattle.rounds.proofs.Products.{walsh_sum}
use Rattle.rounds.proofs.Peaks.{size_at, Peaks, peaks_fit, peaks_bound, peaks_first}

module _ (ss : List Summand) (c : ℕ) where
  -- one list of masks, with b = 0 and b = 1
  abbrev both : List ℕ → List Candidate
  both ws = sum_pair ss c ws 0 ∷ sum_pair ss c ws 1 ∷ []

  abbrev Of : List ℕ → Candidate → Type 0
  Of ws p = (b : ℕ) × (b < 2) × (p ≡ sum_pair ss c ws b)

  mem_both : (ws : List ℕ) (p : Candidate) → Memᴰ p (both ws) → Of ws p
  mem_both ws p = of_cons (Of ws) (0, zero-lt-suc 1, refl) (of_cons (Of ws) (1, le_refl 2, refl) (λ m. absurd (Memᴰ.not-nil m)))

  pub in_sum_pairs_of : (ws : List ℕ) (b : ℕ) → MasksFit ss ws → b < 2 → Memᴰ (sum_pair ss c ws b) (sum_pairs_of ss c)
  unfolding sum_pairs_of
  in_sum_pairs_of ws b h l = in_each (masks_of_inputs ss) both ws (sum_pair ss c ws b) (in_masks ss ws h)
      (bit_cases (λ b. Memᴰ (sum_pair ss c ws b) (both ws)) (Memᴰ.head refl) (Memᴰ.tail (Memᴰ.head refl)) b l)

  pub mem_sum_pairs_of : (p : Candidate) → Memᴰ p (sum_pairs_of ss c) → (ws : List ℕ) × (b : ℕ) × MasksFit ss ws × (b < 2) × (p ≡ sum_pair ss c ws b)
  unfolding sum_pairs_of
  mem_sum_pairs_of p m =
      let t = mem_each (masks_of_inputs ss) both p m in
      let u = mem_both t.0 p t.2 in
      (t.0, u.0, mem_masks ss t.0 t.1, u.1, u.2)

  -- the distance of the sum's component, over all 2^N inputs
  abbrev pub away : List ℕ → ℕ → ℕ
  away ws b = distance (inputs_of ss) (component (sum_rows ss) c) (joined ss ws) b

  boolean : (x : ℕ) → x < 2 ^ inputs_of ss → component (sum_rows ss) c x < 2
  boolean x l = component_lt (sum_rows ss) c x

  -- by the product's magnitude
  pub near : (ws : List ℕ) (b : ℕ) → MasksFit ss ws → b < 2 → 2 ^ inputs_of ss ≤ 2 * away ws b + size_at ss c ws
  near ws b f =
      let h = distance_walsh (inputs_of ss) (component (sum_rows ss) c) (joined ss ws) boolean in
      let v = ap nat_abs (walsh_sum ss c ws f) in
      bit_cases (λ b. 2 ^ inputs_of ss ≤ 2 * away ws b + size_at ss c ws) (omega arith) (omega arith) b

  -- the sign bit has the smaller of the two distances, and the first where they are equal
  abbrev pub Signed : List ℕ → ℤ → Type 0
  Signed ws z =
      (sign_bit z < 2) × (2 * away ws (sign_bit z) + nat_abs z ≡ 2 ^ inputs_of ss) × ((b : ℕ) → b < sign_bit z → away ws (sign_bit z) < away ws b)

  pub signed : (ws : List ℕ) → MasksFit ss ws → Signed ws (product_at ss c ws)
  unfolding sign_bit
  signed ws f = go (product_at ss c ws) (walsh_sum ss c ws f)
    where
      go : (z : ℤ) → walsh (inputs_of ss) (component (sum_rows ss) c) (joined ss ws) ≡ z → Signed ws z
      go (pos k) q = (omega arith, (walsh_pos (inputs_of ss) (component (sum_rows ss) c) (joined ss ws) boolean k q).0, λ b l. absurd (omega arith))
      go (negsuc k) q =
          let h = walsh_negsuc (inputs_of ss) (component (sum_rows ss) c) (joined ss ws) boolean k q in
          (omega arith, h.0, λ b l. subst (λ (z : ℕ). away ws 1 < away ws z) (omega arith) h.1)

  module _ (ws : List ℕ) (p : Peaks ss c ws) where
    -- the pair that the peaks give
    abbrev pub nearest : Candidate
    nearest = sum_pair ss c ws (sign_bit (product_at ss c ws))

    fits : MasksFit ss ws
    fits = peaks_fit ss c ws p

    -- its distance
    pub nearest_half : 2 * nearest.figure + size_at ss c ws ≡ 2 ^ inputs_of ss
    nearest_half = (signed ws fits).1

    pub nearest_in : Memᴰ nearest (sum_pairs_of ss c)
    nearest_in = in_sum_pairs_of ws (sign_bit (product_at ss c ws)) fits (signed ws fits).0

    -- no pair is nearer
    pub nearest_least : (q : Candidate) → Memᴰ q (sum_pairs_of ss c) → nearest.figure ≤ q.figure
    nearest_least q m =
        let t = mem_sum_pairs_of q m in
        omega (arith, ap (λ (p : Candidate). p.figure) t.4, near t.0 t.1 t.2 t.3, peaks_bound ss c ws p t.0 t.2, nearest_half)

    -- and those before it are further
    pub nearest_first : FirstIn (λ r q. r.figure < q.figure) nearest (sum_pairs_of ss c)
    unfolding sum_pairs_of
    nearest_first = first_each Closer both
        (first_weaken (λ r v. size_at ss c v < size_at ss c r) _ (λ v k l q m. further v (mem_masks ss v k) l q (mem_both v q m)) (peaks_first ss c ws p))
        (last (sign_bit (product_at ss c ws)) (signed ws fits).0 (signed ws fits).2)
      where
        Closer : Candidate → Candidate → Type 0
        Closer r q = r.figure < q.figure

        further : (v : List ℕ) → MasksFit ss v → size_at ss c v < size_at ss c ws → (q : Candidate) → Of v q → Closer nearest q
        further v f l q t = omega (arith, ap (λ (p : Candidate). p.figure) t.2, near v t.0 f t.1, nearest_half)

        last : (b : ℕ) → b < 2 → ((a : ℕ) → a < b → away ws b < away ws a) → FirstIn Closer (sum_pair ss c ws b) (both ws)
        last b = bit_cases (λ b. ((a : ℕ) → a < b → away ws b < away ws a) → FirstIn Closer (sum_pair ss c ws b) (both ws)) (λ h. here) (λ h. there (h 0 (zero-lt-suc 0)) here) b

    -- so it is the first best of its component
    pub nearest_taken : (b : Candidate) → nearest.figure < b.figure → best lower b (sum_pairs_of ss c) ≡ nearest
    nearest_taken b h = best_is lower b nearest (lt-ltb _ _ h) (first_weaken _ _ (λ q m l. lt-ltb _ _ l) nearest_first) (λ q m. le-ltb _ _ (nearest_least q m))

    pub nearest_kept : (b : Candidate) → b.figure ≤ nearest.figure → best lower b (sum_pairs_of ss c) ≡ b
    nearest_kept b h = best_stays lower b (sum_pairs_of ss c) (λ q m. le-ltb q.figure b.figure (omega (arith, nearest_least q m)))
